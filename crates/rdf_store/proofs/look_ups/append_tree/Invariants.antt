use Rattle.std.proofs.Common.{◌≡◌, ◌++◌, map}
use Rattle.rdf_store.specs.Inside.Numbers.{parts_of}
use Rattle.rdf_store.proofs.look_ups.append_tree.Given as goal

abbrev pub invariant-loop-key : goal.invariant-loop-key
invariant-loop-key l = l.out.items ≡ l.fn.out.items ++ map (parts_of l.table) l.yielded
