-- The numbers of blank nodes don't run out: but for a subject's, each stands in a triple of its own.
use Rattle.std.specs.Prelude.{ℕ, ◌+◌, ◌≤◌, length}
use Rattle.rdf_turtle.specs.ParserState.{ParserState, longest}

-- at most so many numbers more were taken than triples said, with room for these
abbrev pub HasRoom : ℕ → ParserState → Type 0
HasRoom more s = s.numbering.next + more ≤ length s.quads + longest

-- from one state to the other, at most so many numbers more are taken than triples said
abbrev pub TakesAtMost : ℕ → ParserState → ParserState → Type 0
TakesAtMost more s u = u.numbering.next + length s.quads ≤ s.numbering.next + length u.quads + more
