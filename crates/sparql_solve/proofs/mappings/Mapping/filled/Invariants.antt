use Rattle.std.proofs.Common.{◌-◌, length}
use Rattle.sparql_solve.proofs.BoundLemmas.{IsMergedBelow}
use Rattle.sparql_solve.proofs.mappings.Mapping.filled.Given as goal

abbrev pub invariant-loop-column : goal.invariant-loop-column
invariant-loop-column l = IsMergedBelow l.fn.self l.other l.out l.from

abbrev pub decreases-loop-column : goal.decreases-loop-column
decreases-loop-column l = length l.other - l.from
