use Rattle.std.proofs.Common.{◌-◌}
use Rattle.sparql_solve.proofs.BoundColumnLemmas.{HasBoundBelow}
use Rattle.sparql_solve.proofs.minus.append_bound.Given as goal

abbrev pub invariant-loop-from : goal.invariant-loop-from
invariant-loop-from l = HasBoundBelow l.initial.columns.items l.columns.items l.row l.from

abbrev pub decreases-loop-from : goal.decreases-loop-from
decreases-loop-from l = l.len - l.from
