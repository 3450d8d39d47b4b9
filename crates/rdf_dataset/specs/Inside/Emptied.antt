-- Parts of a view that were emptied, and what they hold now.
use Rattle.std.specs.Prelude.{◌≡◌, Bool, false, List, Option, IfSome}
use Rattle.std.specs.FinSet as set
use Rattle.rdf_terms.specs.declared.term.Term.{Term}
use Rattle.rdf_terms.specs.declared.quad.GraphName.{GraphName}
use Rattle.rdf_terms.specs.declared.quad.GraphName.TheVariants.{Default, Named}
use Rattle.rdf_terms.specs.Quad.{QuadParts}
use Rattle.rdf_store.specs.Stored.{Stored}
use Rattle.rdf_dataset.specs.State.{State, Quads, Names, in_named, is_default, matches}
use Rattle.rdf_dataset.specs.declared.emptied.Emptied.{Emptied}

-- a part that was emptied holds the quads that pass its test, and no others
abbrev pub IsPart : (QuadParts → Bool) → Option Stored → Quads → Type 0
IsPart test part quads = IfSome part (λ (s : Stored). s.quads ≡ set.retain quads test)

-- the same of the names of graphs
abbrev pub AreNames : Option (List Term) → Names → Type 0
AreNames part names = IfSome part (λ listed. set.from_list listed ≡ names)

abbrev pub in_default : QuadParts → Bool
in_default q = is_default q.graph

-- a graph is one of those whose names these are; the default one never is
abbrev pub is_among : Names → GraphName → Bool
is_among names Default = false
is_among names (Named name) = set.contains names name

abbrev pub in_graphs : Names → QuadParts → Bool
in_graphs names q = is_among names q.graph

-- graphs that were emptied one by one: their names, and the quads of these graphs and no others
abbrev pub AreHeld : Option Stored → Quads → Type 0
AreHeld graphs quads = IfSome graphs (λ (s : Stored). s.quads ≡ set.retain quads (in_graphs s.names))

-- each part that was emptied holds what the state has of it
pub record AreParts (emptied : Emptied) (s : State) : Type 0 where
  pub in_default_graph : IsPart in_default emptied.default s.quads
  pub in_named_graphs : IsPart in_named emptied.named s.quads
  pub of_graphs : AreNames emptied.names s.names
  pub in_each_graph : AreHeld emptied.graphs s.quads

-- each look-up in the graph finds the same quads in both sets
abbrev pub FindsTheSame : GraphName → Quads → Quads → Type 0
FindsTheSame graph part quads = (s p o : Option Term) → set.retain part (matches graph s p o) ≡ set.retain quads (matches graph s p o)

-- without the quads of a list
abbrev pub less : State → List QuadParts → State
less s quads = record { quads = set.difference s.quads (set.from_list quads); names = s.names; next = s.next }
