-- What a pattern is evaluated over: the graphs of a dataset as lists (SPARQL 1.1 Query, section 18.1.2).
use Rattle.std.specs.Prelude.{List, [], ◌∷◌, None, cond}
use Rattle.std.specs.List.{list_any}
use Rattle.std.specs.Ordering.{eq_by_cmp}
use Rattle.std.specs.declared.cmp.Ordering.{Ordering}
use Rattle.std.specs.FinSet as set
use Rattle.rdf_terms.specs.Quad.{QuadParts}
use Rattle.rdf_terms.specs.declared.term.Term.{Term}
use Rattle.rdf_terms.specs.declared.quad.GraphName.{GraphName}
use Rattle.rdf_dataset.specs.Sorted.{ListsOnce}
use Rattle.rdf_dataset.specs.State.{State, Quads, matches}

-- the names of the graphs, and the quads of each graph
pub record Listing : Type 0 where
  pub names : List Term
  pub quads : GraphName → List QuadParts

-- the quads of a graph
abbrev pub graph_quads : State → GraphName → Quads
graph_quads s g = set.retain s.quads (matches g None None None)

-- each name of the state stands once, and of each graph each quad once
pub record Lists (s : State) (d : Listing) : Type 0 where
  pub names : ListsOnce s.names d.names
  pub quads : (g : GraphName) → ListsOnce (graph_quads s g) (d.quads g)

-- ---- one listing of each state

-- each item once
abbrev pub distinct_by : {K : Type 0} → (K → K → Ordering) → List K → List K
distinct_by R [] = []
distinct_by R (x ∷ xs) = cond (list_any (eq_by_cmp R x) xs) (distinct_by R xs) (x ∷ distinct_by R xs)

-- the members of a set
abbrev pub listed : {K : Type 0} {R : K → K → Ordering} → set.FinSet R → List K
listed {K} {R} members = distinct_by R (set.items members)

abbrev pub listing_of : State → Listing
listing_of s = record { names = listed s.names; quads = λ g. listed (graph_quads s g) }
