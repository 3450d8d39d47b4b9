use Rattle.std.proofs.Common.{◌≡◌, [], take}
use Rattle.rdf_orders.specs.Contents.{with_all}
use Rattle.rdf_orders.proofs.quad_sets.QuadSets.insert_quads.Given as goal

abbrev pub invariant-loop-quad : goal.invariant-loop-quad
invariant-loop-quad l = l.self ≡ with_all l.initial.self (take l.quad-index l.quads) []
