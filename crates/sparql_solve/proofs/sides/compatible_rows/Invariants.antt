use Rattle.std.proofs.Common.{◌≡◌, ◌++◌}
use Rattle.std.specs.Vec.Iter.{into_iter_items}
use Rattle.sparql_algebra.specs.Under.{agreeing}
use Rattle.sparql_solve.proofs.sides.compatible_rows.Given as goal

abbrev pub invariant-loop-row : goal.invariant-loop-row
invariant-loop-row l = l.out.items ++ agreeing (into_iter_items l.row-iterator) l.under ≡ agreeing l.fn.rows.items l.under
