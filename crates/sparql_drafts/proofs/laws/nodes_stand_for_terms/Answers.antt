use Rattle.sparql_drafts.proofs.AbbreviationLemmas.{blank_node_table, literals_are_terms, names_are_iris, variables_are_themselves}
use Rattle.sparql_drafts.proofs.laws.nodes_stand_for_terms.Goals as goal

pub returns-clause-variables : goal.returns-clause-variables
returns-clause-variables c = variables_are_themselves

pub returns-clause-names : goal.returns-clause-names
returns-clause-names c = names_are_iris

pub returns-clause-literals : goal.returns-clause-literals
returns-clause-literals c = literals_are_terms

pub returns-clause-blanks : goal.returns-clause-blanks
returns-clause-blanks c = blank_node_table
