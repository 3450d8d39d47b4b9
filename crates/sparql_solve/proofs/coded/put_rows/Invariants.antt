use Rattle.std.proofs.Common.{◌≡◌}
use Rattle.sparql_solve.specs.Coded.{rows_of}
use Rattle.sparql_solve.proofs.coded.put_rows.Given as goal

abbrev pub invariant-loop-row : goal.invariant-loop-row
invariant-loop-row l = l.rows.items ≡ rows_of l.yielded
