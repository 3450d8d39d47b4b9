use Rattle.std.proofs.Common.{◌≡◌, ◌++◌, drop}
use Rattle.std.specs.List.{flat_map}
use Rattle.sparql_algebra.specs.Algebra.{element}
use Rattle.sparql_algebra.specs.Solutions.{merges}
use Rattle.sparql_algebra.specs.Under.{agreeing}
use Rattle.sparql_solve.specs.Under.{kept}
use Rattle.sparql_solve.proofs.sides.rows_one_by_one.Given as goal

abbrev pub invariant-loop-row : goal.invariant-loop-row
invariant-loop-row l =
    l.out.items ++ flat_map (λ x. agreeing (kept l.scope.variables.now (element l.member) x (merges l.found x)) l.under) (drop l.row-index l.rows)
    ≡ flat_map (λ x. agreeing (kept l.scope.variables.now (element l.member) x (merges l.found x)) l.under) l.rows
