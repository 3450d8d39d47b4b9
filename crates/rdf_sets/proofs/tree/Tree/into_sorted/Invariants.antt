use Rattle.std.proofs.Common.{◌≡◌}
use Rattle.rdf_sets.proofs.tree.Tree.into_sorted.Given as goal

abbrev pub invariant-loop-item : goal.invariant-loop-item
invariant-loop-item g l = l.items.items ≡ l.yielded
