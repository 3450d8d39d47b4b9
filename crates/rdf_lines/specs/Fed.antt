-- A reader of lines that is fed its text a piece at a time.
use Rattle.std.specs.Prelude.{◌≡◌, ℕ, ◌+◌, ◌<◌, ◌≤◌, Bool, false, List, [], ◌∷◌, ◌++◌, length, drop, Option, Some, None, Result, Ok, Err}
use Rattle.rdf_lines.specs.Document.{HasSaid, IsDocument, ReadsFront}
use Rattle.rdf_lines.specs.Pieces.{Hold, feed_len}
use Rattle.rdf_lines.specs.Reader.{Answer}
use Rattle.rdf_lines.specs.declared.fault.FaultKind.{FaultKind}
use Rattle.rdf_lines.specs.declared.fault.FaultKind.TheVariants.{Read, NoMemory, Failed}
use Rattle.rdf_lines.specs.declared.fault.LineFault.{LineFault}
use Rattle.rdf_lines.specs.declared.format.LineFormat.{LineFormat}
use Rattle.rdf_terms.specs.declared.quad.Quad.{Quad}

-- what a reader holds between two pieces
pub record Fed : Type 0 where
  pub format : LineFormat
  -- the front of the line that it is in, and whether that stands behind a CR
  pub line : List ℕ
  pub behind_return : Bool
  -- the number of the line, and the labels before it
  pub number : ℕ
  pub labels : List (List ℕ)

-- behind some bytes without a line end, or none
abbrev pub behind_front : Bool → List ℕ → Bool
behind_front behind [] = behind
behind_front behind (b ∷ bs) = false

-- with the front of a line, or more of it
abbrev pub with_front : Fed → List ℕ → Fed
with_front f front =
    record { format = f.format; line = f.line ++ drop (feed_len f.behind_return front) front; behind_return = behind_front f.behind_return front; number = f.number; labels = f.labels }

-- It was fed these bytes: whole lines, which say these quads, and the front of the line that it is in.
abbrev pub HasBeenFed : List ℕ → List Quad → Fed → Type 0
HasBeenFed read quads f = (front : List (List ℕ)) × Hold false read front f.line f.behind_return × HasSaid f.format front f.number f.labels quads

-- these quads, and the one that comes then, if any
abbrev pub and_then : List Quad → Option Quad → List Quad
and_then quads None = quads
and_then quads (Some quad) = quads ++ quad ∷ []

-- what is left of a piece: where no quad came, nothing
abbrev pub IsLeft : List ℕ → Option Quad → List ℕ → Type 0
IsLeft piece None rest = rest ≡ []
IsLeft piece (Some quad) rest = length rest < length piece

-- A front of the piece was taken, up to the end of the first line that says a quad, or all of it.
pub record Takes (old : Fed) (piece : List ℕ) (quad : Option Quad) (rest : List ℕ) (new : Fed) : Type 0 where
  pub front : List ℕ
  pub parts : piece ≡ front ++ rest
  pub left : IsLeft piece quad rest
  pub format : new.format ≡ old.format
  pub number : new.number + length rest ≤ old.number + length piece
  pub fed : (read : List ℕ) (quads : List Quad) → HasBeenFed read quads old → HasBeenFed (read ++ front) (and_then quads quad) new

-- A fault behind these quads of a text, by its kind: that of the text's document, or want of memory at a line whose
-- forerunners say the quads.
abbrev pub StopsFed : LineFormat → List ℕ → List Quad → LineFault → FaultKind → Type 0
StopsFed format text quads fault (NoMemory _) = (behind : List (List ℕ)) × ReadsFront format text fault.line quads behind
StopsFed format text quads fault Read = ⊥
StopsFed format text quads fault Failed = ⊥
StopsFed format text quads fault kind = IsDocument format text quads (Some fault)

-- The piece has a fault, however the text goes on.
abbrev pub Faults : Fed → List ℕ → LineFault → Type 0
Faults old piece fault = (read : List ℕ) (quads : List Quad) (beyond : List ℕ) → HasBeenFed read quads old → StopsFed old.format (read ++ (piece ++ beyond)) quads fault fault.kind

-- The text has ended: its last line says this.
abbrev pub Ends : Fed → Answer → Type 0
Ends old (Ok quad) = (read : List ℕ) (quads : List Quad) → HasBeenFed read quads old → IsDocument old.format read (and_then quads quad) None
Ends old (Err fault) = (read : List ℕ) (quads : List Quad) → HasBeenFed read quads old → StopsFed old.format read quads fault fault.kind

-- All of a piece was taken, whose lines say these quads.
pub record TakesAll (old : Fed) (piece : List ℕ) (more : List Quad) (new : Fed) : Type 0 where
  pub format : new.format ≡ old.format
  pub number : new.number ≤ old.number + length piece
  pub fed : (read : List ℕ) (quads : List Quad) → HasBeenFed read quads old → HasBeenFed (read ++ piece) (quads ++ more) new

-- the document of a text has these quads first
abbrev pub BeginsWith : LineFormat → List ℕ → List Quad → Type 0
BeginsWith format text quads = (others : List Quad) × (ending : Option LineFault) × IsDocument format text (quads ++ others) ending

-- The piece has a fault behind these quads, however the text goes on.
abbrev pub FaultsBehind : Fed → List ℕ → List Quad → LineFault → Type 0
FaultsBehind old piece more fault =
    (read : List ℕ) (quads : List Quad) (beyond : List ℕ) → HasBeenFed read quads old
    → StopsFed old.format (read ++ (piece ++ beyond)) (quads ++ more) fault fault.kind × BeginsWith old.format (read ++ (piece ++ beyond)) (quads ++ more)

-- The text has ended: its last line says these quads, or has a fault behind them.
abbrev pub EndsBehind : Fed → List Quad → Result (Unit {0}) LineFault → Type 0
EndsBehind old more (Ok u) = (read : List ℕ) (quads : List Quad) → HasBeenFed read quads old → IsDocument old.format read (quads ++ more) None
EndsBehind old more (Err fault) =
    (read : List ℕ) (quads : List Quad) → HasBeenFed read quads old → StopsFed old.format read (quads ++ more) fault fault.kind × BeginsWith old.format read (quads ++ more)

-- However the text goes on, its document has these quads first.
abbrev pub FedBegins : Type 0
FedBegins = (read : List ℕ) (quads : List Quad) (f : Fed) (beyond : List ℕ) → HasBeenFed read quads f
    → (others : List Quad) × (ending : Option LineFault) × IsDocument f.format (read ++ beyond) (quads ++ others) ending
