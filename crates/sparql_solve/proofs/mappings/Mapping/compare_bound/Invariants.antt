use Rattle.std.proofs.Common.{◌-◌, length}
use Rattle.sparql_solve.proofs.BoundLemmas.{SameBefore}
use Rattle.sparql_solve.proofs.mappings.Mapping.compare_bound.Given as goal

abbrev pub invariant-loop-column : goal.invariant-loop-column
invariant-loop-column l = SameBefore l.self l.other l.from

abbrev pub decreases-loop-column : goal.decreases-loop-column
decreases-loop-column l = length l.self - l.from
