-- What added and removed quads and names say of two states.
use Rattle.std.specs.Prelude.{◌≡◌, ℕ, List}
use Rattle.std.specs.FinSet as set
use Rattle.rdf_terms.specs.declared.term.Term.{Term}
use Rattle.rdf_terms.specs.Quad.{QuadParts}
use Rattle.rdf_sets.specs.Delta.{IsDelta}
use Rattle.rdf_dataset.specs.State.{State, Quads}

-- what t has and s hasn't was added, and what s has and t hasn't was removed; the quads added are a set
pub record IsQuadDelta (s t added : Quads) (removed : List QuadParts) : Type 0 where
  pub gained : added ≡ set.difference t s
  pub lost : set.from_list removed ≡ set.difference s t

-- lists of quads and names, and a counter, lead from the state s to the state t
pub record IsStateDelta (s t : State) (added removed : List QuadParts) (names_added names_removed : List Term) (after : ℕ) : Type 0 where
  pub quads : IsDelta s.quads t.quads added removed
  pub names : IsDelta s.names t.names names_added names_removed
  pub next : after ≡ t.next
