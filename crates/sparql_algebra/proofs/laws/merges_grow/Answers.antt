use Rattle.sparql_algebra.proofs.GrowthLemmas.{merges_grow}
use Rattle.sparql_algebra.proofs.laws.merges_grow.Goals as goal

pub returns : goal.returns
returns c = merges_grow
