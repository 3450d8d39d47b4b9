-- What a text says in a format: the quads of its document, or its fault. Only Turtle asks for the base IRI (RDF 1.1 Turtle, section 6.3).
use Rattle.std.specs.Prelude.{ℕ, List, Option, Some, None}
use Rattle.rdf_terms.specs.Quad.{QuadParts}
use Rattle.rdf_lines.specs.Document as lines
use Rattle.rdf_lines.specs.declared.format.LineFormat.{LineFormat}
use Rattle.rdf_lines.specs.declared.format.LineFormat.TheVariants as line
use Rattle.rdf_turtle.specs.Document as turtle
use Rattle.rdf_session.specs.declared.fault.KeeperFault.{KeeperFault}
use Rattle.rdf_session.specs.declared.fault.KeeperFault.TheVariants as fault
use Rattle.rdf_session.specs.declared.format.Format.{Format}
use Rattle.rdf_session.specs.declared.format.Format.TheVariants.{NQuads, NTriples, Turtle}

-- Against the base, the text is a document of these quads.
abbrev pub IsDocument : Format → Option (List ℕ) → List ℕ → List QuadParts → Type 0
IsDocument NQuads base text quads = lines.IsDocument line.NQuads text quads None
IsDocument NTriples base text quads = lines.IsDocument line.NTriples text quads None
IsDocument Turtle base text quads = turtle.IsDocument base text quads

-- Against the base, the text is no document, by this fault.
abbrev pub IsFaulty : Format → Option (List ℕ) → List ℕ → KeeperFault → Type 0
IsFaulty NQuads base text (fault.Line at) = (quads : List QuadParts) × lines.IsDocument line.NQuads text quads (Some at)
IsFaulty NTriples base text (fault.Line at) = (quads : List QuadParts) × lines.IsDocument line.NTriples text quads (Some at)
IsFaulty Turtle base text (fault.Turtle at) = turtle.IsFaulty base text at
IsFaulty format base text _ = ⊥

-- the format of documents that a format of lines is
abbrev pub of_lines : LineFormat → Format
of_lines line.NQuads = NQuads
of_lines line.NTriples = NTriples
