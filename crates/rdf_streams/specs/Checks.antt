-- What a check of a document answers (RDF 1.1 N-Quads, section 2; RDF 1.1 N-Triples, section 2; RDF 1.1 Turtle, section 6): how many
-- statements it has, or its fault. A statement that stands twice counts twice.
use Rattle.std.specs.Prelude.{◌≡◌, ℕ, List, length, Option, Some, None, Result, Ok, Err}
use Rattle.std.specs.Io.KnownBytes.{Consumes}
use Rattle.rdf_lines.specs.Document as lines
use Rattle.rdf_lines.specs.declared.format.LineFormat.{LineFormat}
use Rattle.rdf_lines.specs.declared.format.LineFormat.TheVariants as line
use Rattle.rdf_terms.specs.declared.quad.Quad.{Quad}
use Rattle.rdf_turtle.specs.Document as turtle
use Rattle.rdf_session.specs.declared.format.Format.{Format}
use Rattle.rdf_session.specs.declared.format.Format.TheVariants.{NQuads, NTriples, Turtle}
use Rattle.rdf_streams.specs.Conversion.Converts.{whole_lines}
use Rattle.rdf_streams.specs.declared.conversion.fault.DocumentFault.TheVariants.{Line as InLine, Turtle as InTurtle}
use Rattle.rdf_streams.specs.declared.conversion.fault.ConvertFault.{ConvertFault}
use Rattle.rdf_streams.specs.declared.conversion.fault.ConvertFault.TheVariants.{Document, Read, Write, NoMemory}

-- what is answered of a text of lines, of which this is left unread
abbrev pub ChecksLines : LineFormat → List ℕ → Option (List ℕ) → Result ℕ ConvertFault → Type 0
-- Every line is sound: the number of their statements.
ChecksLines format text left (Ok count) = (quads : List Quad) × lines.IsDocument format text quads None × (count ≡ length quads)
-- A line is faulty: the fault of the first such line.
ChecksLines format text left (Err (Document (InLine at))) = (quads : List Quad) × lines.IsDocument format text quads (Some at)
ChecksLines format text left (Err (Document (InTurtle at))) = ⊥
-- A read failed: the lines that were wholly read are sound.
ChecksLines format text left (Err Read) = (read : List ℕ) × (quads : List Quad) × Consumes (Some text) left read × lines.IsDocument format (whole_lines read) quads None
-- Nothing is written.
ChecksLines format text left (Err Write) = ⊥
-- Memory was wanting.
ChecksLines format text left (Err (NoMemory _)) = Unit {0}

-- what is answered of a text of Turtle against a base IRI
abbrev pub ChecksTurtle : Option (List ℕ) → List ℕ → Result ℕ ConvertFault → Type 0
-- It is a document: the number of its triples.
ChecksTurtle base text (Ok count) = (quads : List Quad) × turtle.IsDocument base text quads × (count ≡ length quads)
-- It is none: its fault.
ChecksTurtle base text (Err (Document (InTurtle at))) = turtle.IsFaulty base text at
ChecksTurtle base text (Err (Document (InLine at))) = ⊥
-- A read failed.
ChecksTurtle base text (Err Read) = Unit {0}
-- Nothing is written.
ChecksTurtle base text (Err Write) = ⊥
-- Memory was wanting.
ChecksTurtle base text (Err (NoMemory _)) = Unit {0}

-- What is answered of a text in a format, against a base IRI for which the line formats don't ask, of which this is left unread.
abbrev pub Checks : Format → Option (List ℕ) → List ℕ → Option (List ℕ) → Result ℕ ConvertFault → Type 0
Checks NQuads base text left answer = ChecksLines line.NQuads text left answer
Checks NTriples base text left answer = ChecksLines line.NTriples text left answer
Checks Turtle base text left answer = ChecksTurtle base text answer
