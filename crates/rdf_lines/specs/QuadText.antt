-- The line of a quad: a canonical N-Triples line (RDF 1.1 N-Triples, section 4) with a graph label (RDF 1.1 N-Quads, section 2.1).
use Rattle.std.specs.Prelude.{◌≡◌, ℕ, List, [], ◌++◌, codes, IsSorted, IsPermutation}
use Rattle.std.specs.List.{flat_map}
use Rattle.rdf_terms.specs.Order.{quad_cmp}
use Rattle.rdf_terms.specs.TermText.{term_text}
use Rattle.rdf_terms.specs.declared.quad.GraphName.{GraphName}
use Rattle.rdf_terms.specs.declared.quad.GraphName.TheVariants.{Default, Named}
use Rattle.rdf_terms.specs.declared.quad.Quad.{Quad}

-- the default graph is not written
abbrev pub graph_text : GraphName → List ℕ
graph_text Default = []
graph_text (Named name) = term_text name ++ codes " "

-- one space after each term, then a dot and LF
abbrev pub quad_text : Quad → List ℕ
quad_text q = term_text q.subject ++ codes " " ++ term_text q.predicate ++ codes " " ++ term_text q.object ++ codes " " ++ graph_text q.graph ++ codes ".\n"

-- the lines of these quads, repeats included, in their order
abbrev pub IsSortedText : List Quad → List ℕ → Type 0
IsSortedText quads text = (sorted : List Quad) × IsPermutation quads sorted × IsSorted quad_cmp sorted × (text ≡ flat_map quad_text sorted)

-- quads have one such text
abbrev pub SortedTextIsOne : Type 0
SortedTextIsOne = (quads : List Quad) → (text other : List ℕ) → IsSortedText quads text → IsSortedText quads other → text ≡ other
