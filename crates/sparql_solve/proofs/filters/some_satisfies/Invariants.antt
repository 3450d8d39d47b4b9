use Rattle.std.proofs.Common.{◌≡◌, drop, filter}
use Rattle.sparql_algebra.specs.Results.{is_some_solution}
use Rattle.sparql_algebra.specs.Solutions.{satisfies}
use Rattle.sparql_solve.proofs.filters.some_satisfies.Given as goal

abbrev pub invariant-loop-row : goal.invariant-loop-row
invariant-loop-row l =
    is_some_solution (filter (satisfies l.scope.variables.now l.filters) (drop l.row-index l.rows)) ≡ is_some_solution (filter (satisfies l.scope.variables.now l.filters) l.rows)
