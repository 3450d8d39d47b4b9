use Rattle.std.proofs.Common.{◌≡◌, ◌++◌, map, drop}
use Rattle.sparql_solve.specs.LookUps.{widened}
use Rattle.sparql_solve.proofs.chunks.widened_rows.Given as goal

abbrev pub invariant-loop-row : goal.invariant-loop-row
invariant-loop-row l = l.out.items ++ map (widened l.hidden) (drop l.row-index l.rows) ≡ map (widened l.hidden) l.rows
