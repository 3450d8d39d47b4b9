use Rattle.std.proofs.Common.{◌≡◌, ◌++◌, take}
use Rattle.rdf_sets.proofs.sorted.append_copies.Given as goal

abbrev pub invariant-loop-item : goal.invariant-loop-item
invariant-loop-item g l = l.out.items ≡ l.fn.out.items ++ take l.item-index l.items
