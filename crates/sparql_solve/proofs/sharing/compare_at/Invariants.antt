use Rattle.std.proofs.Common.{◌-◌, length}
use Rattle.sparql_solve.proofs.sharing.compare_at.Given as goal

abbrev pub decreases-loop-column : goal.decreases-loop-column
decreases-loop-column l = length l.row - l.from
