use Rattle.sparql_grammar.proofs.QuadProductions.{quads_are_groups, quads_are_one_group}
use Rattle.sparql_grammar.proofs.laws.quads_are_groups.Goals as goal

pub returns-clause-found : goal.returns-clause-found
returns-clause-found c = quads_are_groups

pub returns-clause-only : goal.returns-clause-only
returns-clause-only c = quads_are_one_group
