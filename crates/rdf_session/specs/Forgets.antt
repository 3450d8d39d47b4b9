-- What an accepted request leaves of a history, and what its depth forgets of it.
use Rattle.std.specs.Prelude.{◌≡◌, ◌≢◌, ℕ, ◌+◌, ◌≤◌, ◌↔◌, List, [], ◌∷◌, ◌++◌, length, take, Some}
use Rattle.rdf_dataset.specs.State.{State}
use Rattle.rdf_session.specs.GivesBack.{IsWholeSession}
use Rattle.rdf_session.specs.History.{place_of}
use Rattle.rdf_session.specs.Request.{Request}
use Rattle.rdf_session.specs.Session.{Session, Do, Changed, Transition, all_states, now}
use Rattle.rdf_session.specs.declared.fault.Counts.{Counts}

-- The states up to the cursor and the one now stay, but for the first of them, which are forgotten.
pub record Leaves (old new : Session) : Type 0 where
  pub forgotten : List State
  pub states : forgotten ++ all_states new ≡ take (old.states.cursor + 1) (all_states old) ++ now new ∷ []
  -- no more is forgotten than must be
  pub least : forgotten ≢ [] → old.depth ≡ Some (length new.states.items)
  -- nothing is to be redone
  pub cursor : new.states.cursor ≡ length new.states.items
  -- each mark is at the state where it was, and those at other states are gone
  pub marks : (name : List ℕ) (place : ℕ) → (place_of name new.states ≡ Some place)
      ↔ ((place_of name old.states ≡ Some (place + length forgotten)) × (place + length forgotten ≤ old.states.cursor))

abbrev pub RequestsLeaveTheLast : Type 0
RequestsLeaveTheLast = (old new : Session) (request : Request) (c : Counts) → IsWholeSession old
    → Transition old (Do request) (Changed c) new → Leaves old new
