use Rattle.std.proofs.Common.{◌≡◌, ◌++◌}
use Rattle.std.specs.List.{flat_map}
use Rattle.std.specs.Vec.Iter.{into_iter_items}
use Rattle.sparql_solve.specs.Parts.{merges_in}
use Rattle.sparql_solve.proofs.joins.append_joins_moved.Given as goal

abbrev pub invariant-loop-row : goal.invariant-loop-row
invariant-loop-row l =
    l.out.items ++ flat_map (merges_in l.parts) (into_iter_items l.row-iterator) ≡ l.fn.out.items ++ flat_map (merges_in l.parts) l.fn.rows.items
