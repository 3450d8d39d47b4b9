use Rattle.std.proofs.Common.{◌+◌, ◌≤◌, length}
use Rattle.rdf_lines.proofs.HeldLemmas.{SoFar}
use Rattle.rdf_lines.proofs.held.read_into.Given as goal

abbrev pub invariant-loop-rest : goal.invariant-loop-rest
invariant-loop-rest l = SoFar l.format l.bytes l.quads.items l.progress.number l.progress.labels l.rest × (l.progress.number + length l.rest ≤ length l.bytes + 1)

abbrev pub decreases-loop-rest : goal.decreases-loop-rest
decreases-loop-rest l = length l.rest
