use Rattle.std.proofs.Common.{◌≡◌, ◌++◌, map, take}
use Rattle.std.specs.Vec.Iter.{into_iter_items}
use Rattle.sparql_solve.proofs.matching.cut_rows.Given as goal

abbrev pub invariant-loop-row : goal.invariant-loop-row
invariant-loop-row l = l.out.items ++ map (take l.columns) (into_iter_items l.row-iterator) ≡ map (take l.columns) l.fn.rows.items
