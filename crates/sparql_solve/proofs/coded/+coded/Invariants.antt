use Rattle.std.proofs.Common.{length, ◌-◌, ◌*◌, ◌+◌}
use Rattle.sparql_solve.proofs.CodedRunLemmas.{IsSortedTo}
use Rattle.sparql_solve.proofs.coded.+coded.Given as goal

-- a call has one level less than the one of its own that it stands in
abbrev pub decreases-sort_coded : goal.decreases-sort_coded
decreases-sort_coded l = 3 * l.levels

abbrev pub decreases-sort_run : goal.decreases-sort_run
decreases-sort_run l = 3 * l.levels + 1

abbrev pub decreases-sort_runs : goal.decreases-sort_runs
decreases-sort_runs l = 3 * l.levels + 2

abbrev pub invariant-sort_runs-loop-from : goal.invariant-sort_runs-loop-from
invariant-sort_runs-loop-from l = IsSortedTo l.from l.fn.rows l.rows

abbrev pub decreases-sort_runs-loop-from : goal.decreases-sort_runs-loop-from
decreases-sort_runs-loop-from l = length l.initial.rows - l.from
