use Rattle.std.proofs.Common.{◌-◌}
use Rattle.sparql_solve.specs.Coded.{AreAlike, rows_of}
use Rattle.sparql_solve.proofs.coded.first_apart.Given as goal

abbrev pub invariant-loop-column : goal.invariant-loop-column
invariant-loop-column l = AreAlike l.column (rows_of l.rows)

abbrev pub decreases-loop-column : goal.decreases-loop-column
decreases-loop-column l = l.width - l.column
