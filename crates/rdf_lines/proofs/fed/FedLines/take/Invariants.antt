use Rattle.std.proofs.Common.{◌≡◌, ◌≤◌, ◌+◌, ◌++◌, ℕ, List, length}
use Rattle.rdf_terms.specs.declared.quad.Quad.{Quad}
use Rattle.rdf_lines.specs.Fed.{HasBeenFed}
use Rattle.rdf_lines.proofs.fed.FedLines.take.Given as goal

abbrev pub invariant-loop-place : goal.invariant-loop-place
invariant-loop-place l =
    (front : List ℕ) × (l.fn.piece ≡ front ++ l.rest) × (l.self.format ≡ l.fn.self.format) × (l.self.number + length l.rest ≤ l.fn.self.number + length l.fn.piece)
    × ((read : List ℕ) (quads : List Quad) → HasBeenFed read quads l.fn.self → HasBeenFed (read ++ front) quads l.self)

abbrev pub decreases-loop-place : goal.decreases-loop-place
decreases-loop-place l = length l.rest
