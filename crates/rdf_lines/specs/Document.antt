-- A document: the statements of its lines up to the first faulty one.
use Rattle.std.specs.Prelude.{◌≡◌, ℕ, ◌+◌, ◌⊎◌, List, [], ◌∷◌, ◌++◌, length, Option, Some, None, Ok, Err}
use Rattle.rdf_lines.specs.declared.fault.FaultKind.{FaultKind}
use Rattle.rdf_lines.specs.declared.fault.FaultKind.TheVariants.{Read, NoMemory, Failed}
use Rattle.rdf_lines.specs.declared.fault.LineFault.{LineFault}
use Rattle.rdf_lines.specs.declared.format.LineFormat.{LineFormat}
use Rattle.rdf_lines.specs.declared.statement.Statement.{Statement}
use Rattle.rdf_terms.specs.declared.quad.Quad.{Quad}
use Rattle.rdf_lines.specs.Lines.{lines}
use Rattle.rdf_lines.specs.Line.{LineSays}
use Rattle.rdf_lines.specs.Labels.{numbered, labels_after}

-- the statements of the lines, of which the first has this number, and the fault of the first faulty line
abbrev pub ReadsAll : LineFormat → ℕ → List (List ℕ) → List Statement → Option LineFault → Type 0
ReadsAll format number [] statements fault = (statements ≡ []) × (fault ≡ None)
ReadsAll format number (line ∷ more) statements fault =
    (LineSays format line (Ok None) × ReadsAll format (number + 1) more statements fault)
    ⊎ (((s : Statement) × (others : List Statement) × LineSays format line (Ok (Some s)) × (statements ≡ s ∷ others) × ReadsAll format (number + 1) more others fault)
    ⊎ ((kind : FaultKind) × LineSays format line (Err kind) × (statements ≡ []) × (fault ≡ Some (record { line = number; kind = kind }))))

-- the quads of a text, and its fault
abbrev pub IsDocument : LineFormat → List ℕ → List Quad → Option LineFault → Type 0
IsDocument format text quads fault = (statements : List Statement) × ReadsAll format 1 (lines text) statements fault × (quads ≡ numbered statements)

-- These lines, the first of a text, were read. They say these quads; the next line has this number, and the labels so far are these.
abbrev pub HasSaid : LineFormat → List (List ℕ) → ℕ → List (List ℕ) → List Quad → Type 0
HasSaid format front number labels quads =
    (statements : List Statement) × ReadsAll format 1 front statements None × (number ≡ length front + 1) × (labels ≡ labels_after [] statements) × (quads ≡ numbered statements)

-- The lines of a text before the one with this number were read, and say these quads; behind them come these.
abbrev pub ReadsFront : LineFormat → List ℕ → ℕ → List Quad → List (List ℕ) → Type 0
ReadsFront format text number quads behind = (front : List (List ℕ)) × (labels : List (List ℕ)) × (lines text ≡ front ++ behind) × HasSaid format front number labels quads

-- A fault that a reader of a whole text answers, by its kind: that of the document, or want of memory at a line whose
-- forerunners were all read.
abbrev pub TellsFault : LineFormat → List ℕ → LineFault → FaultKind → Type 0
TellsFault format text fault (NoMemory _) = (quads : List Quad) × (line : List ℕ) × (behind : List (List ℕ)) × ReadsFront format text fault.line quads (line ∷ behind)
TellsFault format text fault Read = ⊥
TellsFault format text fault Failed = ⊥
TellsFault format text fault kind = (quads : List Quad) × IsDocument format text quads (Some fault)

-- The same, with the quads of the lines before it.
abbrev pub StopsBehind : LineFormat → List ℕ → List Quad → LineFault → FaultKind → Type 0
StopsBehind format text quads fault (NoMemory _) = (line : List ℕ) × (behind : List (List ℕ)) × ReadsFront format text fault.line quads (line ∷ behind)
StopsBehind format text quads fault Read = ⊥
StopsBehind format text quads fault Failed = ⊥
StopsBehind format text quads fault kind = IsDocument format text quads (Some fault)

-- Each text is a document, and just one.
abbrev pub EachTextIsOneDocument : Type 0
EachTextIsOneDocument = (format : LineFormat) (text : List ℕ) → (quads : List Quad) × (ending : Option LineFault) × IsDocument format text quads ending
    × ((others : List Quad) (end : Option LineFault) → IsDocument format text others end → (others ≡ quads) × (end ≡ ending))
