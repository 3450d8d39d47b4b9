use Rattle.std.proofs.Common.{◌≡◌, ◌++◌, filter}
use Rattle.std.specs.Vec.Iter.{into_iter_items}
use Rattle.sparql_algebra.specs.Solutions.{satisfies}
use Rattle.sparql_solve.proofs.filters.filtered_rows.Given as goal

abbrev pub invariant-loop-row : goal.invariant-loop-row
invariant-loop-row l =
    l.out.items ++ filter (satisfies l.scope.variables.now l.filters) (into_iter_items l.row-iterator) ≡ filter (satisfies l.scope.variables.now l.filters) l.fn.rows.items
