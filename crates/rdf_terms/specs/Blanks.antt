-- The blank nodes of quads, by their numbers.
use Rattle.std.specs.Prelude.{◌≡◌, ℕ, ◌<◌, List, [], ◌∷◌, ◌++◌, Contains}
use Rattle.std.specs.List.{flat_map}
use Rattle.rdf_terms.specs.declared.term.Term.{Term}
use Rattle.rdf_terms.specs.declared.term.Term.TheVariants.{Blank, Iri, Literal}
use Rattle.rdf_terms.specs.declared.quad.GraphName.{GraphName}
use Rattle.rdf_terms.specs.declared.quad.GraphName.TheVariants.{Default, Named}
use Rattle.rdf_terms.specs.declared.quad.Quad.{Quad}

abbrev pub blanks_in : Term → List ℕ
blanks_in (Blank number) = number ∷ []
blanks_in (Iri iri) = []
blanks_in (Literal literal) = []

abbrev pub blanks_in_graph : GraphName → List ℕ
blanks_in_graph Default = []
blanks_in_graph (Named name) = blanks_in name

-- a predicate is an IRI
abbrev pub blanks_of : Quad → List ℕ
blanks_of q = blanks_in q.subject ++ blanks_in q.object ++ blanks_in_graph q.graph

-- Blank numbers come in order of first appearance, quad after quad and in each its subject, object and graph name: before each
-- number stand all the smaller ones.
abbrev pub AreNumberedInOrder : List Quad → Type 0
AreNumberedInOrder quads = (front back : List ℕ) (number smaller : ℕ) → flat_map blanks_of quads ≡ front ++ number ∷ back → smaller < number → Contains front smaller
