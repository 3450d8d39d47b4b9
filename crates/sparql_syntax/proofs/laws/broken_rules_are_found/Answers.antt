use Rattle.sparql_syntax.proofs.BrokenRuleLemmas as lemma
use Rattle.sparql_syntax.proofs.ReusedFound as found
use Rattle.sparql_syntax.proofs.ReusedLemmas.{label_is_reused}
use Rattle.sparql_syntax.proofs.laws.broken_rules_are_found.Goals as goal

pub returns-clause-blank : goal.returns-clause-blank
returns-clause-blank c = lemma.blank_is_found

pub returns-clause-variable : goal.returns-clause-variable
returns-clause-variable c = lemma.variable_is_found

pub returns-clause-literal : goal.returns-clause-literal
returns-clause-literal c = lemma.literal_is_found

pub returns-clause-blank_kind : goal.returns-clause-blank_kind
returns-clause-blank_kind c = lemma.blank_is_of_kind

pub returns-clause-variable_kind : goal.returns-clause-variable_kind
returns-clause-variable_kind c = lemma.variable_is_of_kind

pub returns-clause-literal_kind : goal.returns-clause-literal_kind
returns-clause-literal_kind c = lemma.literal_is_of_kind

pub returns-clause-label : goal.returns-clause-label
returns-clause-label c = label_is_reused

pub returns-clause-reused : goal.returns-clause-reused
returns-clause-reused c = found.reused_is_found

pub returns-clause-reused_in_queries : goal.returns-clause-reused_in_queries
returns-clause-reused_in_queries c = found.reused_is_found_in_queries
