-- What a conversion gathers of a piece of a document of lines.
use Rattle.std.specs.Prelude.{◌≡◌, ◌≤◌, ℕ, ◌+◌, List, ◌++◌, length, Option, Some, None, Result, Ok, Err}
use Rattle.rdf_streams.specs.Conversion.Converts.{lines_of}
use Rattle.rdf_streams.specs.declared.conversion.fault.ConvertFault.{ConvertFault}
use Rattle.rdf_streams.specs.declared.conversion.fault.ConvertFault.TheVariants.{Document, NoMemory}
use Rattle.rdf_streams.specs.declared.conversion.fault.DocumentFault.TheVariants.{Line as InLine}
use Rattle.rdf_lines.specs.Document.{IsDocument}
use Rattle.rdf_lines.specs.Fed.{Fed, HasBeenFed}
use Rattle.rdf_lines.specs.declared.fault.LineFault.{LineFault}
use Rattle.rdf_lines.specs.declared.format.LineFormat.{LineFormat}
use Rattle.rdf_terms.specs.declared.quad.Quad.{Quad}

-- the document of a text has these quads first
abbrev pub Begins : LineFormat → List ℕ → List Quad → Type 0
Begins format text quads = (others : List Quad) × (ending : Option LineFault) × IsDocument format text (quads ++ others) ending

-- A fault that isn't the device's, behind these quads of a text.
abbrev pub StopsIn : LineFormat → List ℕ → List Quad → ConvertFault → Type 0
StopsIn format text quads (Document (InLine at)) = IsDocument format text quads (Some at)
StopsIn format text quads (NoMemory _) = Begins format text quads
StopsIn format text quads fault = ⊥

-- The lines of these quads are behind those that were gathered before.
abbrev pub Grows : List ℕ → List Quad → List ℕ → Type 0
Grows old more new = new ≡ old ++ lines_of more

-- The reader was fed the piece, whose lines say these quads,
pub record GoesOn (old : Fed) (piece : List ℕ) (more : List Quad) (new : Fed) : Type 0 where
  pub format : new.format ≡ old.format
  pub number : new.number ≤ old.number + length piece
  pub fed : (read : List ℕ) (quads : List Quad) → HasBeenFed read quads old → HasBeenFed (read ++ piece) (quads ++ more) new

-- or there is a fault behind these quads, however the text goes on.
abbrev pub Stops : Fed → List ℕ → List Quad → ConvertFault → Type 0
Stops old piece more fault = (read : List ℕ) (quads : List Quad) (beyond : List ℕ) → HasBeenFed read quads old → StopsIn old.format (read ++ (piece ++ beyond)) (quads ++ more) fault

-- The text has ended: its last line says this, or has a fault.
abbrev pub Ends : Fed → List Quad → Result (Unit {0}) ConvertFault → Type 0
Ends old more (Ok u) = (read : List ℕ) (quads : List Quad) → HasBeenFed read quads old → IsDocument old.format read (quads ++ more) None
Ends old more (Err fault) = (read : List ℕ) (quads : List Quad) → HasBeenFed read quads old → StopsIn old.format read (quads ++ more) fault
