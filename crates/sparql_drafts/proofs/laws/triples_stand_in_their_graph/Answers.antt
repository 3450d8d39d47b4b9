use Rattle.sparql_drafts.proofs.StandLemmas.{blocks_stand, data_stand, patterns_stand}
use Rattle.sparql_drafts.proofs.laws.triples_stand_in_their_graph.Goals as goal

pub returns-clause-blocks : goal.returns-clause-blocks
returns-clause-blocks c = blocks_stand

pub returns-clause-data : goal.returns-clause-data
returns-clause-data c = data_stand

pub returns-clause-patterns : goal.returns-clause-patterns
returns-clause-patterns c = patterns_stand
