-- What comes in of a piece of a document of lines, and at its end.
use Rattle.std.specs.Prelude.{◌≡◌, ℕ, List, ◌++◌, None, Result, Ok, Err}
use Rattle.rdf_lines.specs.Document.{IsDocument}
use Rattle.rdf_lines.specs.Fed.{Fed, HasBeenFed, TakesAll}
use Rattle.rdf_terms.specs.Quad.{QuadParts}
use Rattle.rdf_session.specs.Inside.Staging.{TellsLineFault}
use Rattle.rdf_session.specs.declared.fault.KeeperFault.{KeeperFault}

-- The reader was fed the piece, and the quads of its lines are behind those before.
abbrev pub TakesIn : Fed → List QuadParts → List ℕ → Fed → List QuadParts → Type 0
TakesIn old quads piece new now = (more : List QuadParts) × TakesAll old piece more new × (now ≡ quads ++ more)

-- Or there is a fault in it, however the text goes on.
abbrev pub StopsLines : Fed → List ℕ → KeeperFault → Type 0
StopsLines old piece fault = (read beyond : List ℕ) (quads : List QuadParts) → HasBeenFed read quads old → TellsLineFault old.format (read ++ (piece ++ beyond)) fault

-- The text has ended: the quad of its last line, if any, is behind those before, or that line has a fault.
abbrev pub EndsLines : Fed → List QuadParts → Result (Unit {0}) KeeperFault → List QuadParts → Type 0
EndsLines old quads (Ok u) now = (read : List ℕ) → HasBeenFed read quads old → IsDocument old.format read now None
EndsLines old quads (Err fault) now = (read : List ℕ) → HasBeenFed read quads old → TellsLineFault old.format read fault
