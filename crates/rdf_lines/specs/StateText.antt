-- The state text: a sound state of a dataset as bytes. The format is this project's own; its terms and quads are written as
-- canonical N-Quads lines have them (RDF 1.1 N-Quads, section 2; RDF 1.1 N-Triples, section 4).
use Rattle.std.specs.Prelude.{◌≡◌, ℕ, ◌≤◌, List, ◌++◌, codes, decimal, length, Bool, not, ◌&&◌, IsTrue, ⊤}
use Rattle.std.specs.FinSet as set
use Rattle.std.specs.List.{flat_map}
use Rattle.rdf_terms.specs.declared.term.Term.{Term}
use Rattle.rdf_terms.specs.declared.quad.GraphName.{GraphName}
use Rattle.rdf_terms.specs.declared.quad.GraphName.TheVariants.{Default, Named}
use Rattle.rdf_terms.specs.declared.quad.Quad.{Quad}
use Rattle.rdf_terms.specs.Below.{IsTermBelow, IsQuadBelow}
use Rattle.rdf_terms.specs.Lists.{ListsSorted}
use Rattle.rdf_terms.specs.Order.{term_cmp, quad_cmp}
use Rattle.rdf_terms.specs.Quad.{is_quad}
use Rattle.rdf_terms.specs.Term.{is_term, is_literal_term}
use Rattle.rdf_terms.specs.TermText.{term_text}
use Rattle.rdf_lines.specs.QuadText.{quad_text}

-- ---- states: the number of the next blank node, the graphs' names, and the quads of the default graph and of the named ones

abbrev pub Names : Type 0
Names = set.FinSet term_cmp

abbrev pub Quads : Type 0
Quads = set.FinSet quad_cmp

abbrev pub names_of : List Term → Names
names_of names = set.from_list names

abbrev pub quads_of : List Quad → Quads
quads_of quads = set.from_list quads

-- the counter of blank nodes goes no further
abbrev pub last_number : ℕ
last_number = 1000000000000000000

-- an IRI or a blank node (RDF 1.1 Concepts, section 4)
abbrev pub is_graph_name : Term → Bool
is_graph_name name = is_term name && not (is_literal_term name)

-- the graph has a name among these, where it isn't the default one
abbrev pub IsNamed : Names → GraphName → Type 0
IsNamed names Default = ⊤
IsNamed names (Named name) = IsTrue (set.contains names name)

-- Each place of a quad holds a term of a right kind, each name is an IRI or a blank node, each graph that has a quad has its name,
-- all blank nodes have numbers below the next one, and that one is at most the last number.
pub record IsSoundState (next : ℕ) (names : Names) (quads : Quads) : Type 0 where
  pub right_quads : (q : Quad) → IsTrue (set.contains quads q) → IsTrue (is_quad q)
  pub right_names : (n : Term) → IsTrue (set.contains names n) → IsTrue (is_graph_name n)
  pub named : (q : Quad) → IsTrue (set.contains quads q) → IsNamed names q.graph
  pub quads_below : (q : Quad) → IsTrue (set.contains quads q) → IsQuadBelow next q
  pub names_below : (n : Term) → IsTrue (set.contains names n) → IsTermBelow next n
  pub limit : next ≤ last_number

-- ---- the text

abbrev pub name_line : Term → List ℕ
name_line name = codes "#% graph " ++ (term_text name ++ codes "\n")

-- the format and its version, the counter, a line for each name, and one for each quad
abbrev pub state_text : ℕ → List Term → List Quad → List ℕ
state_text next names quads =
    codes "#% rdfkeep state 2\n" ++ (codes "#% next " ++ (decimal next ++ (codes "\n" ++ (flat_map name_line names ++ flat_map quad_text quads))))

-- The names and the quads each once, in order: the names by their own order, the quads by graph, subject, predicate and object.
pub record IsStateText (next : ℕ) (names : Names) (quads : Quads) (text : List ℕ) : Type 0 where
  pub names_listed : List Term
  pub quads_listed : List Quad
  pub names_sorted : ListsSorted names names_listed
  pub quads_sorted : ListsSorted quads quads_listed
  pub is : text ≡ state_text next names_listed quads_listed

-- the text of no sound state
abbrev pub IsNoStateText : List ℕ → Type 0
IsNoStateText text = (next : ℕ) (names : Names) (quads : Quads) → IsSoundState next names quads → ¬ (IsStateText next names quads text)

-- ---- the laws

-- a state has one text
abbrev pub StateTextIsOne : Type 0
StateTextIsOne = (next : ℕ) (names : Names) (quads : Quads) (text other : List ℕ) → IsStateText next names quads text → IsStateText next names quads other → other ≡ text

-- no two sound states share one
abbrev pub StateTextsDiffer : Type 0
StateTextsDiffer =
    (next other_next : ℕ) (names other_names : Names) (quads other_quads : Quads) (text : List ℕ)
    → IsSoundState next names quads → IsSoundState other_next other_names other_quads
    → IsStateText next names quads text → IsStateText other_next other_names other_quads text
    → (other_next ≡ next) × (other_names ≡ names) × (other_quads ≡ quads)
