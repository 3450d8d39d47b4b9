use Rattle.std.proofs.Common.{◌≡◌, take}
use Rattle.sparql_algebra.specs.Solutions.{left_joins, satisfies}
use Rattle.sparql_solve.proofs.PartLemmas.{all_rows}
use Rattle.sparql_solve.proofs.joins.left_join.Given as goal

abbrev pub invariant-loop-group : goal.invariant-loop-group
invariant-loop-group l =
    l.out.items ≡ left_joins (all_rows (take l.group-index l.group-items)) (all_rows l.others.items) (satisfies l.scope.variables.now l.filters)
