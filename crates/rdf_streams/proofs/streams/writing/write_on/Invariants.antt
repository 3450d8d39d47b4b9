use Rattle.std.proofs.Common.{◌≡◌, ℕ, List, ◌++◌, length, false}
use Rattle.rdf_streams.specs.Streams.{Writes}
use Rattle.rdf_streams.proofs.streams.writing.write_on.Given as goal

abbrev pub invariant-loop-rest : goal.invariant-loop-rest
invariant-loop-rest g l = (front : List ℕ) × (l.fn.text ≡ front ++ l.rest) × Writes g.D.Device.step l.fn.device false front l.device

abbrev pub decreases-loop-rest : goal.decreases-loop-rest
decreases-loop-rest g l = length l.rest
