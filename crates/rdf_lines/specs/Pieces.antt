-- The unread rest of a stream's last piece, and what is taken of it.
use Rattle.std.specs.Prelude.{◌≡◌, ◌≢◌, ℕ, ◌<◌, ◌≤◌, ◌+◌, ◌*◌, ◌&&◌, Bool, true, false, List, [], ◌∷◌, ◌++◌, length, take, drop, slice_range, if◌then◌else◌, Option, Result, Ok, Err}
use Rattle.std.specs.Io.KnownBytes.{Consumes, IsAtEnd, prepend_known}
use Rattle.rdf_terms.specs.LineEnds.{is_line_feed}
use Rattle.rdf_lines.specs.Lines.{lines_behind}
use Rattle.std.specs.List.{onto_first}
use Rattle.rdf_lines.specs.declared.fault.FaultKind.{FaultKind}
use Rattle.rdf_lines.specs.declared.fault.FaultKind.TheVariants.{Read, NoMemory}
use Rattle.rdf_lines.specs.declared.cut.Place.{Place}
use Rattle.rdf_lines.specs.declared.cut.Cut.{Cut}
use Rattle.rdf_lines.specs.declared.cut.Cut.TheVariants.{Line, Last, End}

pub record Held : Type 0 where
  -- the rest of the piece
  pub held : List ℕ
  -- the read calls that are left
  pub calls : ℕ

-- what lies ahead: the rest of the piece, and then what the stream has left, where it tells
abbrev pub ahead : List ℕ → Option (List ℕ) → Option (List ℕ)
ahead held beyond = prepend_known held beyond

-- a front of the first line
abbrev pub onto : List ℕ → List (List ℕ) → List (List ℕ)
onto [] lines = lines
onto (b ∷ bs) lines = onto_first b (onto bs lines)

-- The bytes read, behind a CR or not, hold these whole lines and the front of the next one, and what comes then stands
-- behind a CR or not: however the text goes on, its lines are these, then the front onto those of what comes.
abbrev pub Hold : Bool → List ℕ → List (List ℕ) → List ℕ → Bool → Type 0
Hold behind read whole front now = (tail : List ℕ) → lines_behind behind (read ++ tail) ≡ whole ++ onto front (lines_behind now tail)

-- what a new piece brings
abbrev pub Refills : Option (List ℕ) → Result Bool FaultKind → Option (List ℕ) → List ℕ → Type 0
Refills before (Ok true) after piece = (0 < length piece) × Consumes before after piece
Refills before (Ok false) after piece = (piece ≡ []) × Consumes before after [] × IsAtEnd after
Refills before (Err Read) after piece = (piece ≡ []) × Consumes before after []
Refills before (Err _) after piece = ⊥

-- what taking the next line leaves: the line, or the front of it
abbrev pub TakesLine : Option (List ℕ) → Bool → Result Cut FaultKind → List ℕ → Option (List ℕ) → Bool → Type 0
TakesLine before behind (Ok Line) line after now = (read : List ℕ) × Consumes before after read × Hold behind read (line ∷ []) [] now
TakesLine before behind (Ok Last) line after now = (read : List ℕ) × Consumes before after read × Hold behind read [] line now × (line ≢ []) × IsAtEnd after
TakesLine before behind (Ok End) line after now = (read : List ℕ) × Consumes before after read × Hold behind read [] [] now × IsAtEnd after
TakesLine before behind (Err Read) line after now = (read : List ℕ) × Consumes before after read × Hold behind read [] line now
TakesLine before behind (Err (NoMemory _)) line after now = (read : List ℕ) × Consumes before after read × Hold behind read [] line now
TakesLine before behind (Err _) line after now = ⊥

-- where a read failed, no piece is held
abbrev pub FailsEmpty : Result Cut FaultKind → List ℕ → Type 0
FailsEmpty (Ok cut) held = Unit {0}
FailsEmpty (Err Read) held = held ≡ []
FailsEmpty (Err _) held = Unit {0}

-- the bytes that reads can still bring, at most
abbrev pub room : Held → ℕ
room p = p.calls * 65536 + length p.held

-- a piece is held, or the stream has ended
abbrev pub Fills : Option (List ℕ) → Result Bool FaultKind → Option (List ℕ) → List ℕ → Type 0
Fills before (Ok true) after piece = (0 < length piece) × Consumes before after []
Fills before (Ok false) after piece = Consumes before after [] × IsAtEnd after
Fills before (Err Read) after piece = (piece ≡ []) × Consumes before after []
Fills before (Err _) after piece = ⊥

-- how many bytes in front belong to the line end before them
abbrev pub feed_len : Bool → List ℕ → ℕ
feed_len behind [] = 0
feed_len behind (b ∷ bs) = if behind && is_line_feed b then 1 else 0

-- the first line that a piece has whole: its bytes, and what comes behind it
abbrev pub HasLine : Bool → List ℕ → Place → Type 0
HasLine behind piece p =
    (p.start ≤ p.end) × (p.end < length piece) × Hold behind (take (p.end + 1) piece) (slice_range piece p.start p.end ∷ []) [] p.by_return

-- the piece has no line whole: all of it, but for the rest of a line end, is the front of one
abbrev pub HasNoLine : Bool → List ℕ → Type 0
HasNoLine behind piece = 0 < length piece → Hold behind piece [] (drop (feed_len behind piece) piece) false

-- the part of the line that the held piece has goes behind what the line had
abbrev pub TakesPart : Held → Bool → List ℕ → Result Bool FaultKind → Held → Bool → List ℕ → Type 0
TakesPart old behind line (Ok true) new now grown =
    (part : List ℕ) × (n : ℕ) × (new ≡ record old { held = drop n old.held }) × Hold behind (take n old.held) (part ∷ []) [] now × (grown ≡ line ++ part) × (length part < n) × (n ≤ length old.held)
TakesPart old behind line (Ok false) new now grown =
    (part : List ℕ) × (new ≡ record old { held = [] }) × Hold behind old.held [] part now × (grown ≡ line ++ part) × (length part ≤ length old.held)
TakesPart old behind line (Err (NoMemory _)) new now grown = (new ≡ old) × (now ≡ behind) × (grown ≡ line)
TakesPart old behind line (Err _) new now grown = ⊥

-- a line takes a byte at least
abbrev pub Spends : Result Cut FaultKind → ℕ → ℕ → Type 0
Spends (Ok Line) before after = after + 1 ≤ before
Spends (Ok Last) before after = after + 1 ≤ before
Spends (Ok End) before after = after ≤ before
Spends (Err _) before after = after ≤ before
