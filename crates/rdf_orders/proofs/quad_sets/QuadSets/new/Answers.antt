use Rattle.std.proofs.Common.{ap}
use Rattle.rdf_orders.specs.Contents.{ids_of}
use Rattle.rdf_orders.proofs.TreeLemmas.{quads_held, mirrors_itself}
use Rattle.rdf_orders.proofs.quad_sets.QuadSets.new.Goals as goal

pub invariant_of-result : goal.invariant_of-result
invariant_of-result c = mirrors_itself _ _ c.new.ensures

pub returns : goal.returns
returns c = λ i. record { quads = quads_held _ _ c.new.ensures i; names = ap ids_of c.new-2.ensures.empty i }
