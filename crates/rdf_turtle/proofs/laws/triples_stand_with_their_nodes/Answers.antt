use Rattle.rdf_turtle.proofs.StandLemmas.{properties_stand, statements_stand, brackets_stand, lists_stand}
use Rattle.rdf_turtle.proofs.laws.triples_stand_with_their_nodes.Goals as goal

pub returns-clause-verbs : goal.returns-clause-verbs
returns-clause-verbs c = properties_stand

pub returns-clause-statements : goal.returns-clause-statements
returns-clause-statements c = statements_stand

pub returns-clause-brackets : goal.returns-clause-brackets
returns-clause-brackets c = brackets_stand

pub returns-clause-lists : goal.returns-clause-lists
returns-clause-lists c = lists_stand
