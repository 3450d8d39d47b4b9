use Rattle.std.proofs.Common.{take}
use Rattle.std.specs.List.{AllByRecursion}
use Rattle.rdf_orders.specs.Inside.Widths.{IsNarrow}
use Rattle.rdf_orders.proofs.key_tree.are_narrow.Given as goal

abbrev pub invariant-loop-key : goal.invariant-loop-key
invariant-loop-key l = AllByRecursion IsNarrow (take l.key-index l.keys)
