use Rattle.sparql_queries.proofs.GroupLawLemmas.{groups_are_said, triples_are_basic, unions_are_said, optionals_are_said, minuses_are_said, graphs_are_said}
use Rattle.sparql_queries.proofs.laws.groups_are_as_written.Goals as goal

pub returns-clause-group : goal.returns-clause-group
returns-clause-group c = groups_are_said

pub returns-clause-triples : goal.returns-clause-triples
returns-clause-triples c = triples_are_basic

pub returns-clause-union : goal.returns-clause-union
returns-clause-union c = unions_are_said

pub returns-clause-optional : goal.returns-clause-optional
returns-clause-optional c = optionals_are_said

pub returns-clause-minus : goal.returns-clause-minus
returns-clause-minus c = minuses_are_said

pub returns-clause-graph : goal.returns-clause-graph
returns-clause-graph c = graphs_are_said
