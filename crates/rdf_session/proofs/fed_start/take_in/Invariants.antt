use Rattle.std.proofs.Common.{◌≡◌, ◌++◌, ℕ, List, length}
use Rattle.rdf_terms.specs.Quad.{QuadParts}
use Rattle.rdf_session.proofs.FedLemmas.{SoFar}
use Rattle.rdf_session.proofs.fed_start.take_in.Given as goal

abbrev pub invariant-loop-next : goal.invariant-loop-next
invariant-loop-next l = (front : List ℕ) × (more : List QuadParts) × (l.fn.piece ≡ front ++ l.rest) × SoFar l.fn.lines front more l.reader × (l.quads ≡ l.fn.quads ++ more)

abbrev pub decreases-loop-next : goal.decreases-loop-next
decreases-loop-next l = length l.rest
