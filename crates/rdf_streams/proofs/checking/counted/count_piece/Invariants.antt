use Rattle.std.proofs.Common.{◌≡◌, ◌++◌, ◌+◌, ◌≤◌, ℕ, List, length}
use Rattle.rdf_terms.specs.declared.quad.Quad.{Quad}
use Rattle.rdf_session.proofs.CallerLemmas.{SoFar}
use Rattle.rdf_streams.proofs.checking.counted.count_piece.Given as goal

abbrev pub invariant-loop-next : goal.invariant-loop-next
invariant-loop-next l = (front : List ℕ) × (more : List Quad) × (l.fn.piece ≡ front ++ l.rest) × SoFar l.fn.document front more l.reader × (l.counted ≡ l.fn.count + length more) × (length more + length l.rest ≤ length l.fn.piece)

abbrev pub decreases-loop-next : goal.decreases-loop-next
decreases-loop-next l = length l.rest
