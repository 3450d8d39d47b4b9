use Rattle.std.proofs.Common.{◌≡◌, ◌++◌, map, drop}
use Rattle.sparql_values.specs.Mapping.{merge}
use Rattle.sparql_solve.proofs.sides.rows_with.Given as goal

abbrev pub invariant-loop-row : goal.invariant-loop-row
invariant-loop-row l = l.out.items ++ map (λ x. merge x l.bound) (drop l.row-index l.rows) ≡ map (λ x. merge x l.bound) l.rows
