-- What is written as canonical N-Triples is Turtle that says the same: N-Triples is a subset of Turtle (RDF 1.1 N-Triples, sections 1 and 4).
use Rattle.std.specs.Prelude.{◌≡◌, ℕ, IsTrue, List, ◌++◌, codes, Option}
use Rattle.std.specs.List.{flat_map, AllByRecursion}
use Rattle.rdf_terms.specs.Quad.{is_quad}
use Rattle.rdf_terms.specs.TermText.{term_text}
use Rattle.rdf_terms.specs.declared.quad.GraphName.TheVariants.{Default}
use Rattle.rdf_terms.specs.declared.quad.Quad.{Quad}
use Rattle.rdf_terms.specs.Blanks.{AreNumberedInOrder}
use Rattle.rdf_turtle.specs.Document.{IsDocument}

-- the canonical line of a triple: one space after each term, then a dot and LF (RDF 1.1 N-Triples, section 4)
abbrev pub triple_text : Quad → List ℕ
triple_text q = term_text q.subject ++ codes " " ++ term_text q.predicate ++ codes " " ++ term_text q.object ++ codes " .\n"

-- a well formed quad of the default graph
abbrev pub IsDefaultQuad : Quad → Type 0
IsDefaultQuad q = IsTrue (is_quad q) × (q.graph ≡ Default)

-- The canonical lines of such triples are a Turtle document of these very triples, in this order, against any base.
abbrev pub WrittenTriplesAreTurtle : Type 0
WrittenTriplesAreTurtle =
    (base : Option (List ℕ)) (quads : List Quad) → AllByRecursion IsDefaultQuad quads → AreNumberedInOrder quads → IsDocument base (flat_map triple_text quads) quads
