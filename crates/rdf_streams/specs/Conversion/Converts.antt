-- What a conversion writes (RDF 1.1 N-Quads, sections 2 and 4): the canonical lines of a document's statements, in their order.
use Rattle.std.specs.Prelude.{◌≡◌, ◌≢◌, ℕ, Bool, true, false, ◌||◌, not, List, [], ◌∷◌, ◌++◌, if◌then◌else◌, Option, Some, None, Result, Ok, Err}
use Rattle.std.specs.List.{flat_map}
use Rattle.std.specs.Io.KnownBytes.{Consumes}
use Rattle.rdf_lines.specs.declared.fault.LineFault.{LineFault}
use Rattle.rdf_lines.specs.declared.format.LineFormat.{LineFormat}
use Rattle.rdf_terms.specs.declared.quad.Quad.{Quad}
use Rattle.rdf_lines.specs.Document as lines
use Rattle.rdf_lines.specs.declared.format.LineFormat.TheVariants as line
use Rattle.rdf_terms.specs.LineEnds.{is_line_end}
use Rattle.rdf_lines.specs.QuadText.{quad_text}
use Rattle.rdf_turtle.specs.Document as turtle
use Rattle.rdf_session.specs.declared.format.Format.{Format}
use Rattle.rdf_session.specs.declared.format.Format.TheVariants.{NQuads, NTriples, Turtle}
use Rattle.rdf_streams.specs.declared.conversion.fault.DocumentFault.TheVariants.{Line as InLine, Turtle as InTurtle}
use Rattle.rdf_streams.specs.declared.conversion.fault.ConvertFault.{ConvertFault}
use Rattle.rdf_streams.specs.declared.conversion.fault.ConvertFault.TheVariants.{Document, Read, Write, NoMemory}

-- the lines of quads, one after another, repeats included
abbrev pub lines_of : List Quad → List ℕ
lines_of quads = flat_map quad_text quads

abbrev pub is_empty : List ℕ → Bool
is_empty [] = true
is_empty (b ∷ bs) = false

-- the lines of a text that have their end: the text up to its last line end, an LF or a CR
abbrev pub whole_lines : List ℕ → List ℕ
whole_lines [] = []
whole_lines (b ∷ bs) = if is_line_end b || not (is_empty (whole_lines bs)) then b ∷ whole_lines bs else []

-- What is written of a text of lines, of which this is left unread, and how it ends. No statement is left out, none is written
-- twice.
abbrev pub ConvertsLines : LineFormat → List ℕ → Option (List ℕ) → List ℕ → Result (Unit {0}) ConvertFault → Type 0
-- Every line is sound: the lines of all statements.
ConvertsLines format text left out (Ok u) = (quads : List Quad) × lines.IsDocument format text quads None × (out ≡ lines_of quads)
-- A line is faulty: the lines of the statements before it.
ConvertsLines format text left out (Err (Document (InLine at))) = (quads : List Quad) × lines.IsDocument format text quads (Some at) × (out ≡ lines_of quads)
ConvertsLines format text left out (Err (Document (InTurtle at))) = ⊥
-- A read failed: the lines of the statements of the lines that were wholly read.
ConvertsLines format text left out (Err Read) =
    (read : List ℕ) × (quads : List Quad) × Consumes (Some text) left read × lines.IsDocument format (whole_lines read) quads None × (out ≡ lines_of quads)
-- A write failed: a proper front of the lines of the statements.
ConvertsLines format text left out (Err Write) =
    (quads : List Quad) × (ending : Option LineFault) × (more : List ℕ) × lines.IsDocument format text quads ending × (lines_of quads ≡ out ++ more) × (more ≢ [])
-- Memory was wanting: the lines of the first statements.
ConvertsLines format text left out (Err (NoMemory _)) =
    (quads others : List Quad) × (ending : Option LineFault) × lines.IsDocument format text (quads ++ others) ending × (out ≡ lines_of quads)

-- What is written of a text of Turtle against a base IRI, and how it ends.
abbrev pub ConvertsTurtle : Option (List ℕ) → List ℕ → List ℕ → Result (Unit {0}) ConvertFault → Type 0
-- It is a document: the lines of its quads.
ConvertsTurtle base text out (Ok u) = (quads : List Quad) × turtle.IsDocument base text quads × (out ≡ lines_of quads)
-- It is none: nothing.
ConvertsTurtle base text out (Err (Document (InTurtle at))) = turtle.IsFaulty base text at × (out ≡ [])
ConvertsTurtle base text out (Err (Document (InLine at))) = ⊥
-- A read failed: nothing.
ConvertsTurtle base text out (Err Read) = out ≡ []
-- A write failed: a proper front of the lines of its quads.
ConvertsTurtle base text out (Err Write) =
    (quads : List Quad) × (more : List ℕ) × turtle.IsDocument base text quads × (lines_of quads ≡ out ++ more) × (more ≢ [])
-- Memory was wanting: nothing.
ConvertsTurtle base text out (Err (NoMemory _)) = out ≡ []

-- What is written of a text in a format, against a base IRI for which the line formats don't ask, of which this is left unread,
-- and how it ends.
abbrev pub Converts : Format → Option (List ℕ) → List ℕ → Option (List ℕ) → List ℕ → Result (Unit {0}) ConvertFault → Type 0
Converts NQuads base text left out answer = ConvertsLines line.NQuads text left out answer
Converts NTriples base text left out answer = ConvertsLines line.NTriples text left out answer
Converts Turtle base text left out answer = ConvertsTurtle base text out answer
