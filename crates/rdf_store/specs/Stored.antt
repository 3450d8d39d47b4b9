-- Quads and graph names (RDF 1.1 Concepts, section 4), what the operations leave of them, and which quads a look-up wants.
use Rattle.std.specs.Prelude.{◌≡◌, Bool, true, false, not, ◌&&◌, List, Option, None, Some, IsTrue, refl}
use Rattle.std.specs.Coded.{Coded, code_by, coded×}
use Rattle.std.specs.Ordering.{eq_by_cmp}
use Rattle.std.specs.FinSet as set
use Rattle.rdf_terms.specs.declared.term.Term.{Term}
use Rattle.rdf_terms.specs.declared.quad.GraphName.{GraphName}
use Rattle.rdf_terms.specs.declared.quad.GraphName.TheVariants.{Default, Named}
use Rattle.rdf_terms.specs.Quad.{QuadParts}
use Rattle.rdf_terms.specs.Order.{term_cmp, graph_cmp, quad_cmp}
use Rattle.rdf_terms.specs.Codes.{coded_term, coded_quad}
use Rattle.rdf_terms.specs.Lists.{AppendsOnce}

abbrev pub Quads : Type 0
Quads = set.FinSet quad_cmp

abbrev pub Names : Type 0
Names = set.FinSet term_cmp

-- the quads of the default graph and of the named ones, and the graphs' names
pub record Stored : Type 0 where
  pub quads : Quads
  pub names : Names

abbrev pub stored_code : Coded Stored
stored_code =
    code_by (Quads × Names) (coded× (set.code coded_quad) (set.code coded_term))
    (λ s. (s.quads, s.names)) (λ p. record { quads = p.0; names = p.1 }) (λ _. refl)

-- ---- what the operations leave

-- no quad, no name
abbrev pub empty_stored : Stored
empty_stored = record { quads = set.empty; names = set.empty }

abbrev pub with_quad : Stored → QuadParts → Stored
with_quad s q = record { quads = set.insert s.quads q; names = s.names }

abbrev pub without_quad : Stored → QuadParts → Stored
without_quad s q = record { quads = set.remove s.quads q; names = s.names }

abbrev pub with_name : Stored → Term → Stored
with_name s name = record { quads = s.quads; names = set.insert s.names name }

abbrev pub without_name : Stored → Term → Stored
without_name s name = record { quads = s.quads; names = set.remove s.names name }

-- with these quads and these names
abbrev pub with_all : Stored → List QuadParts → List Term → Stored
with_all s quads names = record { quads = set.union s.quads (set.from_list quads); names = set.union s.names (set.from_list names) }

-- without them
abbrev pub without_all : Stored → List QuadParts → List Term → Stored
without_all s quads names = record { quads = set.difference s.quads (set.from_list quads); names = set.difference s.names (set.from_list names) }

-- ---- look-ups

-- a place that is bound wants its term, a free one takes any
abbrev pub fits_place : Option Term → Term → Bool
fits_place None x = true
fits_place (Some t) x = eq_by_cmp term_cmp t x

-- the quad lies in the graph and has the terms of the bound places
abbrev pub matches : GraphName → Option Term → Option Term → Option Term → QuadParts → Bool
matches g s p o q = eq_by_cmp graph_cmp g q.graph && (fits_place s q.subject && (fits_place p q.predicate && fits_place o q.object))

abbrev pub is_default : GraphName → Bool
is_default Default = true
is_default (Named name) = false

-- the quad lies in a named graph
abbrev pub in_named : QuadParts → Bool
in_named q = not (is_default q.graph)

-- the list has gained some members of the set, each once, and all of them where it is said so
pub record AppendsSome (members : Quads) (all : Bool) (old new : List QuadParts) : Type 0 where
  pub some : Quads
  pub within : (q : QuadParts) → IsTrue (set.contains some q) → IsTrue (set.contains members q)
  pub appended : AppendsOnce some old new
  pub whole : IsTrue all → some ≡ members
