-- A reader of lines over its stream as a machine, and what all its calls answer.
use Rattle.std.specs.Prelude.{◌≡◌, ℕ, ◌+◌, ◌<◌, ◌⊎◌, Bool, true, false, List, [], ◌∷◌, ◌++◌, length, Option, Some, None, Result, Ok, Err}
use Rattle.std.specs.List.{AllByRecursion}
use Rattle.std.specs.Io.KnownBytes.{Consumes, IsAtEnd}
use Rattle.rdf_lines.specs.declared.fault.FaultKind.{FaultKind}
use Rattle.rdf_lines.specs.declared.fault.FaultKind.TheVariants.{NotUtf8, Syntax, Relative, Read, NoMemory, Failed as FailedKind}
use Rattle.rdf_lines.specs.declared.fault.LineFault.{LineFault}
use Rattle.rdf_lines.specs.declared.format.LineFormat.{LineFormat}
use Rattle.rdf_lines.specs.declared.statement.Statement.{Statement}
use Rattle.rdf_terms.specs.declared.quad.Quad.{Quad}
use Rattle.rdf_lines.specs.declared.state.ReaderState.{ReaderState}
use Rattle.rdf_lines.specs.declared.state.ReaderState.TheVariants.{Reading, Ended, Failed}
use Rattle.rdf_lines.specs.Lines.{lines_behind}
use Rattle.rdf_lines.specs.Line.{LineSays}
use Rattle.rdf_lines.specs.Labels.{quad_in, labels_of, all_noted}
use Rattle.rdf_lines.specs.Document.{IsDocument, HasSaid, ReadsFront}
use Rattle.rdf_lines.specs.Pieces.{Hold, ahead}
use Rattle.rdf_lines.specs.FaultName.{no_memory}

pub record LineState : Type 0 where
  pub format : LineFormat
  -- what lies ahead, where the stream tells, and whether it stands behind a CR
  pub ahead : Option (List ℕ)
  pub behind_return : Bool
  -- the number of the next line, or of the faulty one
  pub number : ℕ
  -- the labels so far
  pub labels : List (List ℕ)
  pub state : ReaderState

-- what a reader holds between two calls
pub record BetweenCalls : Type 0 where
  pub format : LineFormat
  -- the bytes that were read and aren't taken, and whether they stand behind a CR
  pub held : List ℕ
  pub behind_return : Bool
  -- the number of the next line, or of the faulty one
  pub number : ℕ
  -- the labels so far
  pub labels : List (List ℕ)
  pub state : ReaderState
  -- more than the quads that can still come
  pub left : ℕ

-- of what is left, one is for going on at all
abbrev pub going : ReaderState → ℕ
going Reading = 1
going Ended = 0
going Failed = 0

-- the machine that it is over what the stream has left, where that tells
abbrev pub over : Option (List ℕ) → BetweenCalls → LineState
over beyond b = record {
  format = b.format;
  ahead = ahead b.held beyond;
  behind_return = b.behind_return;
  number = b.number;
  labels = b.labels;
  state = b.state;
}

abbrev pub Answer : Type 0
Answer = Result (Option Quad) LineFault

abbrev pub fault : ℕ → FaultKind → LineFault
fault number kind = record { line = number; kind = kind }

abbrev pub AreSilent : LineFormat → List (List ℕ) → Type 0
AreSilent format ls = AllByRecursion (λ line. LineSays format line (Ok None)) ls

-- just these lines are taken: each with its end, or, where the text has ended, the last of them without one
abbrev pub Taken : LineState → List (List ℕ) → LineState → Bool → Type 0
Taken old ls new false = (read : List ℕ) × Consumes old.ahead new.ahead read × Hold old.behind_return read ls [] new.behind_return
Taken old ls new true = (read : List ℕ) × Consumes old.ahead new.ahead read × (lines_behind old.behind_return read ≡ ls) × IsAtEnd new.ahead

abbrev pub state_after : Bool → ReaderState
state_after false = Reading
state_after true = Ended

-- the lines before a fault of the reader are taken, and a front of the next one
abbrev pub FailsBehind : LineState → List (List ℕ) → LineState → Type 0
FailsBehind old ls new = (read front : List ℕ) × Consumes old.ahead new.ahead read × Hold old.behind_return read ls front new.behind_return

-- lines that say nothing are taken
abbrev pub Passes : LineState → List (List ℕ) → LineState → Bool → Type 0
Passes old ls new ended = AreSilent old.format ls × Taken old ls new ended × (new.state ≡ state_after ended) × (new.number ≡ old.number + length ls) × (new.labels ≡ old.labels) × (new.format ≡ old.format)

-- a fault of this line's own
abbrev pub FaultOf : LineFormat → List ℕ → FaultKind → Type 0
FaultOf format line NotUtf8 = LineSays format line (Err NotUtf8)
FaultOf format line Syntax = LineSays format line (Err Syntax)
FaultOf format line Relative = LineSays format line (Err Relative)
FaultOf format line Read = ⊥
FaultOf format line (NoMemory _) = ⊥
FaultOf format line FailedKind = ⊥

-- what reading one whole line gives, from its number and the labels before
abbrev pub ReadsLine : LineFormat → List ℕ → ℕ → List (List ℕ) → Answer → ℕ → List (List ℕ) → Type 0
ReadsLine format line n labels (Ok None) m now = LineSays format line (Ok None) × (m ≡ n + 1) × (now ≡ labels)
ReadsLine format line n labels (Ok (Some quad)) m now =
    (s : Statement) × LineSays format line (Ok (Some s)) × (now ≡ all_noted labels (labels_of s)) × (quad ≡ quad_in now s) × (m ≡ n + 1)
ReadsLine format line n labels (Err f) m now = (f.line ≡ n) × (m ≡ n) × (FaultOf format line f.kind ⊎ (f.kind ≡ no_memory))

-- One call of next while the reader reads. Silent lines come first, then:
abbrev pub ReadsOn : LineState → Answer → LineState → Type 0
-- the end of the text,
ReadsOn old (Ok None) new = (ls : List (List ℕ)) × Passes old ls new true
-- a statement,
ReadsOn old (Ok (Some quad)) new = (ls : List (List ℕ)) × (line : List ℕ) × (s : Statement) × (ended : Bool) × AreSilent old.format ls × Taken old (ls ++ line ∷ []) new ended ×
    LineSays old.format line (Ok (Some s)) × (new.labels ≡ all_noted old.labels (labels_of s)) × (quad ≡ quad_in new.labels s)
    × (new.number ≡ old.number + length ls + 1) × (new.state ≡ state_after ended) × (new.format ≡ old.format)
-- or a fault: of the line, of the reader or of memory before the line was wholly read, or of memory for its statement
ReadsOn old (Err f) new = (ls : List (List ℕ)) × AreSilent old.format ls × (f.line ≡ old.number + length ls) × (new.state ≡ Failed) × (new.number ≡ f.line) ×
    (((line : List ℕ) × (ended : Bool) × FaultOf old.format line f.kind × Taken old (ls ++ line ∷ []) new ended)
    ⊎ ((((f.kind ≡ Read) ⊎ (f.kind ≡ no_memory)) × FailsBehind old ls new)
    ⊎ ((line : List ℕ) × (ended : Bool) × (f.kind ≡ no_memory) × Taken old (ls ++ line ∷ []) new ended)))

-- One line, or the end, is taken while the reader reads.
abbrev pub OneLine : LineState → Answer → LineState → Type 0
OneLine old (Ok None) new = (ls : List (List ℕ)) × (ended : Bool) × Passes old ls new ended
OneLine old answer new = ReadsOn old answer new

-- One call of next, by how far the reader is.
abbrev pub CallAt : ReaderState → LineState → Answer → LineState → Type 0
CallAt Reading old answer new = ReadsOn old answer new
CallAt Ended old answer new = (answer ≡ Ok None) × (new ≡ old)
CallAt Failed old answer new = (answer ≡ Err (fault old.number FailedKind)) × (new ≡ old)

abbrev pub Call : LineState → Answer → LineState → Type 0
Call old answer new = CallAt old.state old answer new

-- one call after another
abbrev pub Calls : LineState → List Answer → LineState → Type 0
Calls old [] new = new ≡ old
Calls old (answer ∷ answers) new = (mid : LineState) × Call old answer mid × Calls mid answers new

-- The answers are those of a document: its quads in order, then its fault or None; but a fault of the reader or want of
-- memory may come at any time. After a fault all is Failed, after None all is None.
abbrev pub Agrees : List Answer → List Quad → Option LineFault → Type 0
Agrees [] quads ending = Unit {0}
Agrees (Ok (Some quad) ∷ answers) quads ending = (more : List Quad) × (quads ≡ quad ∷ more) × Agrees answers more ending
Agrees (Ok None ∷ answers) quads ending = (quads ≡ []) × (ending ≡ None) × AllByRecursion (λ a. a ≡ Ok None) answers
Agrees (Err f ∷ answers) quads ending =
    AllByRecursion (λ a. a ≡ Err (fault f.line FailedKind)) answers
    × (((quads ≡ []) × (ending ≡ Some f)) ⊎ ((f.kind ≡ Read) ⊎ (f.kind ≡ no_memory)))

-- a machine before its first call
abbrev pub fresh : LineFormat → Option (List ℕ) → LineState
fresh format text = record { format = format; ahead = text; behind_return = false; number = 1; labels = []; state = Reading }

-- a reader before its first call, over any stream
abbrev pub IsFresh : LineFormat → BetweenCalls → Type 0
IsFresh format b = (text : Option (List ℕ)) → over text b ≡ fresh format text

-- The law: whatever pieces the text comes in, the answers of one call after another are its document.
abbrev pub AnswersAreTheDocument : Type 0
AnswersAreTheDocument = (format : LineFormat) (text : List ℕ) (answers : List Answer) (end : LineState) (quads : List Quad) (ending : Option LineFault) →
    Calls (fresh format (Some text)) answers end → IsDocument format text quads ending → Agrees answers quads ending

-- What a reader has behind it that has answered these quads and no fault: lines of its text, which say them.
abbrev pub HasRead : LineFormat → Option (List ℕ) → List Quad → LineState → Type 0
HasRead format text quads s =
    (front : List (List ℕ)) × (ended : Bool) × Taken (fresh format text) front s ended × (s.state ≡ state_after ended) × (s.format ≡ format) × HasSaid format front s.number s.labels quads

-- a fault where these quads were answered: that of the document, or one of the reader or of memory at a line whose forerunners say them
abbrev pub StopsAt : LineFormat → List ℕ → List Quad → LineFault → Type 0
StopsAt format text quads f = IsDocument format text quads (Some f) ⊎ (((f.kind ≡ Read) ⊎ (f.kind ≡ no_memory)) × ((behind : List (List ℕ)) × ReadsFront format text f.line quads behind))

-- the law call by call: before the first one nothing was read,
abbrev pub StartsWithNothing : Type 0
StartsWithNothing = (format : LineFormat) (text : Option (List ℕ)) → HasRead format text [] (fresh format text)

-- a quad is one more,
abbrev pub QuadsAddUp : Type 0
QuadsAddUp = (format : LineFormat) (text : Option (List ℕ)) (quads : List Quad) (quad : Quad) (old new : LineState) →
    HasRead format text quads old → Call old (Ok (Some quad)) new → HasRead format text (quads ++ quad ∷ []) new

-- at the end they are the document, and all of the text was read,
abbrev pub EndIsTheDocument : Type 0
EndIsTheDocument = (format : LineFormat) (text : List ℕ) (quads : List Quad) (old new : LineState) →
    HasRead format (Some text) quads old → Call old (Ok None) new → IsDocument format text quads None × (new.ahead ≡ Some [])

-- and at a fault they are what stands before it.
abbrev pub FaultStops : Type 0
FaultStops = (format : LineFormat) (text : List ℕ) (quads : List Quad) (f : LineFault) (old new : LineState) →
    HasRead format (Some text) quads old → Call old (Err f) new → StopsAt format text quads f

-- where a read failed, nothing that was read is held back
abbrev pub HoldsNothing : Answer → List ℕ → Type 0
HoldsNothing (Ok quad) held = Unit {0}
HoldsNothing (Err f) held = f.kind ≡ Read → held ≡ []

-- where a line was taken, or the end, less is left
abbrev pub FallsAtOk : BetweenCalls → Answer → BetweenCalls → Type 0
FallsAtOk old (Ok quad) new = new.left < old.left
FallsAtOk old (Err f) new = Unit {0}

-- where a quad was answered, less is left
abbrev pub FallsAtQuad : BetweenCalls → Answer → BetweenCalls → Type 0
FallsAtQuad old (Ok (Some quad)) new = new.left < old.left
FallsAtQuad old answer new = Unit {0}
