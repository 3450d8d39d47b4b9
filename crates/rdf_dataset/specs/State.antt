-- The states of a dataset, and the net between two of them (RDF 1.1 Concepts, section 4).
use Rattle.std.specs.Prelude.{◌≡◌, ℕ, ◌≤◌, ◌+◌, List, Option, None, Some, IsTrue, refl, ⊤, Bool, true, false, not, ◌&&◌}
use Rattle.std.specs.Coded.{Coded, code_by, coded×, coded_ℕ}
use Rattle.std.specs.Ordering.{eq_by_cmp}
use Rattle.std.specs.FinSet as set
use Rattle.rdf_terms.specs.declared.term.Term.{Term}
use Rattle.rdf_terms.specs.declared.quad.GraphName.{GraphName}
use Rattle.rdf_terms.specs.declared.quad.GraphName.TheVariants.{Default, Named}
use Rattle.rdf_terms.specs.Term.{is_term, is_literal_term}
use Rattle.rdf_terms.specs.Quad.{QuadParts, is_quad}
use Rattle.rdf_terms.specs.Order.{term_cmp, graph_cmp, quad_cmp}
use Rattle.rdf_terms.specs.Codes.{coded_term, coded_quad}
use Rattle.rdf_terms.specs.Lists.{AppendsOnce}
pub use Rattle.rdf_terms.specs.Below.{IsTermBelow, IsGraphBelow, IsQuadBelow}

abbrev pub Quads : Type 0
Quads = set.FinSet quad_cmp

abbrev pub Names : Type 0
Names = set.FinSet term_cmp

-- the quads of the default graph and of the named ones, the graphs' names, and the number of the next blank node
pub record State : Type 0 where
  pub quads : Quads
  pub names : Names
  pub next : ℕ

abbrev pub state_code : Coded State
state_code =
    code_by (Quads × (Names × ℕ)) (coded× (set.code coded_quad) (coded× (set.code coded_term) coded_ℕ))
    (λ s. (s.quads, (s.names, s.next))) (λ p. record { quads = p.0; names = p.1.0; next = p.1.1 }) (λ _. refl)

-- the counter of blank nodes goes no further
abbrev pub last_number : ℕ
last_number = 1000000000000000000

-- no quad, no name
abbrev pub empty_state : ℕ → State
empty_state next = record { quads = set.empty; names = set.empty; next = next }

-- these quads and these names, in whatever order and however often
abbrev pub listed_state : ℕ → List Term → List QuadParts → State
listed_state next names quads = record { quads = set.from_list quads; names = set.from_list names; next = next }

-- ---- soundness

-- the graph has a name among these, where it isn't the default one
abbrev pub IsNamed : Names → GraphName → Type 0
IsNamed names Default = ⊤
IsNamed names (Named name) = IsTrue (set.contains names name)

-- an IRI or a blank node (RDF 1.1 Concepts, section 4)
abbrev pub is_graph_name : Term → Bool
is_graph_name name = is_term name && not (is_literal_term name)

-- a state of a dataset: each place of a quad holds a term of a right kind, each name is an IRI or a blank node, each graph
-- that has a quad has its name, all blank nodes have numbers below the next one, and that one is at most the last number
pub record IsSound (s : State) : Type 0 where
  pub right_quads : (q : QuadParts) → IsTrue (set.contains s.quads q) → IsTrue (is_quad q)
  pub right_names : (n : Term) → IsTrue (set.contains s.names n) → IsTrue (is_graph_name n)
  pub named : (q : QuadParts) → IsTrue (set.contains s.quads q) → IsNamed s.names q.graph
  pub quads_below : (q : QuadParts) → IsTrue (set.contains s.quads q) → IsQuadBelow s.next q
  pub names_below : (n : Term) → IsTrue (set.contains s.names n) → IsTermBelow s.next n
  pub limit : s.next ≤ last_number

-- ---- what the operations leave

abbrev pub with_graph : Names → GraphName → Names
with_graph names Default = names
with_graph names (Named name) = set.insert names name

-- a quad comes with its graph's name
abbrev pub with_quad : State → QuadParts → State
with_quad s q = record { quads = set.insert s.quads q; names = with_graph s.names q.graph; next = s.next }

-- and goes without it
abbrev pub without_quad : State → QuadParts → State
without_quad s q = record { quads = set.remove s.quads q; names = s.names; next = s.next }

abbrev pub with_name : State → Term → State
with_name s name = record { quads = s.quads; names = set.insert s.names name; next = s.next }

abbrev pub without_name : State → Term → State
without_name s name = record { quads = s.quads; names = set.remove s.names name; next = s.next }

abbrev pub with_blanks : State → ℕ → State
with_blanks s count = record { quads = s.quads; names = s.names; next = s.next + count }

-- ---- graphs that are emptied

abbrev pub is_default : GraphName → Bool
is_default Default = true
is_default (Named name) = false

-- without the quads of a graph; its name stays
abbrev pub without_graph : State → GraphName → State
without_graph s graph = record { quads = set.retain s.quads (λ q. not (eq_by_cmp graph_cmp graph q.graph)); names = s.names; next = s.next }

-- without the quads of named graphs; their names stay
abbrev pub without_named : State → State
without_named s = record { quads = set.retain s.quads (λ q. is_default q.graph); names = s.names; next = s.next }

-- without the quads of named graphs, and without their names
abbrev pub without_names : State → State
without_names s = record { quads = set.retain s.quads (λ q. is_default q.graph); names = set.empty; next = s.next }

-- no quad has this graph
abbrev pub IsEmptyGraph : State → GraphName → Type 0
IsEmptyGraph s graph = (q : QuadParts) → IsTrue (set.contains s.quads q) → ¬ (q.graph ≡ graph)

-- ---- nets

-- a net: the quads and names that were added and removed, and the counter before and after
pub record Change : Type 0 where
  pub added : Quads
  pub removed : Quads
  pub names_added : Names
  pub names_removed : Names
  pub before : ℕ
  pub after : ℕ

abbrev pub change_code : Coded Change
change_code =
    code_by (Quads × (Quads × (Names × (Names × (ℕ × ℕ)))))
    (coded× (set.code coded_quad) (coded× (set.code coded_quad) (coded× (set.code coded_term) (coded× (set.code coded_term) (coded× coded_ℕ coded_ℕ)))))
    (λ n. (n.added, (n.removed, (n.names_added, (n.names_removed, (n.before, n.after))))))
    (λ p. record { added = p.0; removed = p.1.0; names_added = p.1.1.0; names_removed = p.1.1.1.0; before = p.1.1.1.1.0; after = p.1.1.1.1.1 }) (λ _. refl)

-- the net between two states: what the second alone has was added, what the first alone has was removed
abbrev pub net_between : State → State → Change
net_between s t = record {
  added = set.difference t.quads s.quads;
  removed = set.difference s.quads t.quads;
  names_added = set.difference t.names s.names;
  names_removed = set.difference s.names t.names;
  before = s.next;
  after = t.next;
}

-- the net the other way
abbrev pub turned : Change → Change
turned n = record { added = n.removed; removed = n.added; names_added = n.names_removed; names_removed = n.names_added; before = n.after; after = n.before }

-- what a change makes of a state
abbrev pub applied : Change → State → State
applied n s = record {
  quads = set.difference (set.union s.quads n.added) n.removed;
  names = set.difference (set.union s.names n.names_added) n.names_removed;
  next = n.after;
}

-- the net begins at s: it is the one from s to some sound state
abbrev pub Begins : Change → State → Type 0
Begins net s = (t : State) × IsSound t × (net ≡ net_between s t)

-- the net ends at t: it is the one from some sound state to t
abbrev pub Ends : Change → State → Type 0
Ends net t = (s : State) × IsSound s × (net ≡ net_between s t)

-- ---- look-ups

-- a place that is bound wants its term, a free one takes any
abbrev pub fits_place : Option Term → Term → Bool
fits_place None x = true
fits_place (Some t) x = eq_by_cmp term_cmp t x

-- the quad lies in the graph and has the terms of the bound places
abbrev pub matches : GraphName → Option Term → Option Term → Option Term → QuadParts → Bool
matches g s p o q = eq_by_cmp graph_cmp g q.graph && (fits_place s q.subject && (fits_place p q.predicate && fits_place o q.object))

-- the quad lies in a named graph
abbrev pub in_named : QuadParts → Bool
in_named q = not (is_default q.graph)

-- the list has gained some members of the set, each once, and all of them where it is said so
pub record AppendsSome (members : Quads) (all : Bool) (old new : List QuadParts) : Type 0 where
  pub some : Quads
  pub within : (q : QuadParts) → IsTrue (set.contains some q) → IsTrue (set.contains members q)
  pub appended : AppendsOnce some old new
  pub whole : IsTrue all → some ≡ members

-- known tells whether these names have that of the graph
abbrev pub IsKnownGraph : Names → Bool → GraphName → Type 0
IsKnownGraph names known Default = ⊤
IsKnownGraph names known (Named name) = known ≡ set.contains names name
