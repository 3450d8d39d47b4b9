-- What changes make of a state, quad by quad and name by name (RDF 1.1 Concepts, section 4; SPARQL 1.1 Update, sections 3.1.1 and 3.1.3).
use Rattle.std.specs.Prelude.{◌≡◌, ◌⊎◌, ◌↔◌, ℕ, ◌+◌, List, true, Option, Some, Contains}
use Rattle.std.specs.FinSet as set
use Rattle.rdf_terms.specs.Literal.{LiteralParts}
use Rattle.rdf_terms.specs.Quad.{QuadParts}
use Rattle.rdf_terms.specs.declared.quad.GraphName.{GraphName}
use Rattle.rdf_terms.specs.declared.quad.GraphName.TheVariants.{Named}
use Rattle.rdf_terms.specs.declared.term.Term.{Term}
use Rattle.rdf_terms.specs.declared.term.Term.TheVariants.{Blank, Iri, Literal}
use Rattle.rdf_dataset.specs.Exchange.{exchanged}
use Rattle.rdf_dataset.specs.Insertion.{graph_from, quad_from, term_from, with_data}
use Rattle.rdf_dataset.specs.State.{State, IsTermBelow, applied, matches, net_between, turned}

abbrev pub HasQuad : State → QuadParts → Type 0
HasQuad s q = set.contains s.quads q ≡ true

abbrev pub HasName : State → Term → Type 0
HasName s name = set.contains s.names name ≡ true

-- the net between two states leads from the first to the second, and turned it leads back
pub record NetLaws : Type 0 where
  pub ends : (s t : State) → applied (net_between s t) s ≡ t
  pub goes_back : (s t : State) → applied (turned (net_between s t)) t ≡ s
  -- it adds what the second alone has, and removes what the first alone has
  pub added : (s t : State) (q : QuadParts) → (set.contains (net_between s t).added q ≡ true) ↔ (HasQuad t q × ¬ HasQuad s q)
  pub removed : (s t : State) (q : QuadParts) → (set.contains (net_between s t).removed q ≡ true) ↔ (HasQuad s q × ¬ HasQuad t q)
  pub names_added : (s t : State) (n : Term) → (set.contains (net_between s t).names_added n ≡ true) ↔ (HasName t n × ¬ HasName s n)
  pub names_removed : (s t : State) (n : Term) → (set.contains (net_between s t).names_removed n ≡ true) ↔ (HasName s n × ¬ HasName t n)

-- data comes in: what was there stays
pub record DataLaws : Type 0 where
  pub quads : (s : State) (data_quads : List QuadParts) (blanks : ℕ) (q : QuadParts) →
      HasQuad (with_data s data_quads blanks) q ↔ (HasQuad s q ⊎ ((d : QuadParts) × Contains data_quads d × (quad_from s.next d ≡ q)))
  -- with the names of its graphs
  pub names : (s : State) (data_quads : List QuadParts) (blanks : ℕ) (n : Term) →
      HasName (with_data s data_quads blanks) n ↔ (HasName s n ⊎ ((d : QuadParts) × Contains data_quads d × (graph_from s.next d.graph ≡ Named n)))
  pub counter : (s : State) (data_quads : List QuadParts) (blanks : ℕ) → (with_data s data_quads blanks).next ≡ s.next + blanks
  -- A blank node of the data is none that the counter has passed, no two become one, and no other term changes.
  pub new : (s : State) (number : ℕ) → ¬ IsTermBelow s.next (term_from s.next (Blank number))
  pub apart : (first one other : ℕ) → term_from first (Blank one) ≡ term_from first (Blank other) → one ≡ other
  pub iris : (first : ℕ) (iri : List ℕ) → term_from first (Iri iri) ≡ Iri iri
  pub literals : (first : ℕ) (l : LiteralParts) → term_from first (Literal l) ≡ Literal l

-- quads go, and others come in their place: those that do both are there behind it
pub record ExchangeLaws : Type 0 where
  pub quads : (s : State) (gone : List QuadParts) (blanks : ℕ) (come : List QuadParts) (q : QuadParts) →
      HasQuad (exchanged s gone blanks come) q ↔ (Contains come q ⊎ (HasQuad s q × ¬ Contains gone q))
  -- no name goes
  pub names : (s : State) (gone : List QuadParts) (blanks : ℕ) (come : List QuadParts) (n : Term) →
      HasName (exchanged s gone blanks come) n ↔ (HasName s n ⊎ ((d : QuadParts) × Contains come d × (d.graph ≡ Named n)))
  pub counter : (s : State) (gone : List QuadParts) (blanks : ℕ) (come : List QuadParts) → (exchanged s gone blanks come).next ≡ s.next + blanks

-- a place that wants a term has it
abbrev pub Takes : Option Term → Term → Type 0
Takes place t = (wanted : Term) → place ≡ Some wanted → wanted ≡ t

-- a look-up wants the quads of the graph that have the terms of the places that are bound
abbrev pub LookUpsMatch : Type 0
LookUpsMatch =
    (g : GraphName) (s p o : Option Term) (q : QuadParts) →
    (matches g s p o q ≡ true) ↔ ((g ≡ q.graph) × Takes s q.subject × Takes p q.predicate × Takes o q.object)
