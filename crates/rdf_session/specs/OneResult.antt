-- A request has one result at a state, or is refused there, never both.
use Rattle.std.specs.Prelude.{◌≡◌, ◌⊎◌, ℕ, List, Option}
use Rattle.rdf_dataset.specs.State.{State}
use Rattle.rdf_session.specs.Request.{Request, Makes, IsRefused}
use Rattle.rdf_session.specs.declared.fault.KeeperFault.{KeeperFault}

-- Against each base IRI a request makes a state of each state, or is refused there.
abbrev pub SomeResult : Type 0
SomeResult = (base_iri : Option (List ℕ)) (request : Request) (s : State)
    → ((t : State) × Makes base_iri request s t) ⊎ ((fault : KeeperFault) × IsRefused base_iri request s fault)

-- It makes one state.
abbrev pub OneResult : Type 0
OneResult = (base_iri : Option (List ℕ)) (request : Request) (s t u : State) → Makes base_iri request s t → Makes base_iri request s u → t ≡ u

-- It isn't refused where it makes one.
abbrev pub ResultOrRefusal : Type 0
ResultOrRefusal = (base_iri : Option (List ℕ)) (request : Request) (s t : State) (fault : KeeperFault)
    → Makes base_iri request s t → ¬ (IsRefused base_iri request s fault)
