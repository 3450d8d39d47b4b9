use Rattle.std.proofs.Common.{◌≡◌, drop}
use Rattle.sparql_algebra.specs.Solutions.{satisfies}
use Rattle.sparql_solve.proofs.filters.satisfies.Given as goal

abbrev pub invariant-loop-filter : goal.invariant-loop-filter
invariant-loop-filter l = satisfies l.scope.variables.now (drop l.filter-index l.filters) l.row ≡ satisfies l.scope.variables.now l.filters l.row
