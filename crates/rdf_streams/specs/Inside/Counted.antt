-- What a check counts of a piece of a document of lines, and at its end.
use Rattle.std.specs.Prelude.{◌≡◌, ◌≤◌, ℕ, ◌+◌, List, [], length, Result, Ok, Err}
use Rattle.rdf_lines.specs.Fed.{Fed}
use Rattle.rdf_streams.specs.Inside.Gathered.{Ends, GoesOn, Stops}
use Rattle.rdf_streams.specs.declared.conversion.fault.ConvertFault.{ConvertFault}
use Rattle.rdf_terms.specs.declared.quad.Quad.{Quad}

-- The reader was fed the piece, whose lines say so many statements more.
abbrev pub CountsOn : Fed → List ℕ → ℕ → Fed → ℕ → Type 0
CountsOn old piece count new now = (more : List Quad) × GoesOn old piece more new × (now ≡ count + length more) × (length more ≤ length piece)

-- Or there is a fault in it, however the text goes on.
abbrev pub CountStops : Fed → List ℕ → ConvertFault → Type 0
CountStops old piece fault = (more : List Quad) × Stops old piece more fault

-- The text has ended: its last line says so many more, or has a fault.
abbrev pub CountEnds : Fed → ℕ → Result ℕ ConvertFault → Type 0
CountEnds old count (Ok now) = (more : List Quad) × Ends old more (Ok tt) × (now ≡ count + length more)
CountEnds old count (Err fault) = Ends old [] (Err fault)
