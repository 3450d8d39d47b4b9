use Rattle.std.proofs.Common.{◌-◌, ◌≤◌, length}
use Rattle.sparql_solve.proofs.sharing.next_asked.Given as goal

abbrev pub invariant-loop-column : goal.invariant-loop-column
invariant-loop-column l = l.from ≤ l.at

abbrev pub decreases-loop-column : goal.decreases-loop-column
decreases-loop-column l = length l.row - l.at
