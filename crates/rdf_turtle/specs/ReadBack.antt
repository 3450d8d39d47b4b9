-- What the quads of a document are, whatever its text: well formed triples, with blank nodes numbered as they appear. So their
-- canonical lines say them once more.
use Rattle.std.specs.Prelude.{ℕ, ◌<◌, ◌^◌, length, List, Option, IfSome, IsTrue}
use Rattle.std.specs.List.{flat_map, AllByRecursion}
use Rattle.rdf_terms.specs.Blanks.{AreNumberedInOrder}
use Rattle.rdf_terms.specs.Iri.{is_iri}
use Rattle.rdf_terms.specs.declared.quad.Quad.{Quad}
use Rattle.rdf_turtle.specs.Document.{IsDocument}
use Rattle.rdf_turtle.specs.WrittenLaws.{IsDefaultQuad, triple_text}

-- a base is an IRI, where there is one
abbrev pub IsBase : Option (List ℕ) → Type 0
IsBase base = IfSome base (λ b. IsTrue (is_iri b))

-- The quads of a document are triples of the default graph (RDF 1.1 Concepts, section 3.1), each of its terms well formed: there are
-- no more of them than a list in memory has, so that the numbers of blank nodes have 64 bits.
abbrev pub QuadsAreWellFormed : Type 0
QuadsAreWellFormed =
    (base : Option (List ℕ)) (text : List ℕ) (quads : List Quad) → IsBase base → length quads < 2 ^ 63 → IsDocument base text quads
    → AllByRecursion IsDefaultQuad quads

-- Blank nodes have numbers in order of first appearance, from 0.
abbrev pub NumbersComeInOrder : Type 0
NumbersComeInOrder = (base : Option (List ℕ)) (text : List ℕ) (quads : List Quad) → IsDocument base text quads → AreNumberedInOrder quads

-- The canonical lines of a document's quads are a document of these very quads, in this order, against any base.
abbrev pub DocumentsAreReadBack : Type 0
DocumentsAreReadBack =
    (base other : Option (List ℕ)) (text : List ℕ) (quads : List Quad) → IsBase base → length quads < 2 ^ 63 → IsDocument base text quads
    → IsDocument other (flat_map triple_text quads) quads
