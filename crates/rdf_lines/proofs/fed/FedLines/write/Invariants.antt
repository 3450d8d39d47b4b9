use Rattle.std.proofs.Common.{◌≡◌, ◌≤◌, ◌+◌, ◌++◌, ℕ, List, length}
use Rattle.rdf_terms.specs.declared.quad.Quad.{Quad}
use Rattle.rdf_lines.proofs.WrittenFedLemmas.{Behind, lines_of}
use Rattle.rdf_lines.proofs.fed.FedLines.write.Given as goal

abbrev pub invariant-loop-place : goal.invariant-loop-place
invariant-loop-place l =
    (front : List ℕ) × (more : List Quad) × (l.fn.piece ≡ front ++ l.rest) × (l.self.format ≡ l.fn.self.format) × (l.self.number + length l.rest ≤ l.fn.self.number + length l.fn.piece)
    × (l.lines.items ≡ l.fn.lines.items ++ lines_of more) × Behind l.fn.self front more l.self

abbrev pub decreases-loop-place : goal.decreases-loop-place
decreases-loop-place l = length l.rest
