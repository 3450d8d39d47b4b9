-- What a commit leaves, and which state is the base where nothing is forgotten: that at the last commit, or the first.
use Rattle.std.specs.Prelude.{◌≡◌, ℕ, List, [], ◌∷◌, Option, None}
use Rattle.std.specs.List.{AllByRecursion}
use Rattle.rdf_dataset.specs.State.{State}
use Rattle.rdf_session.specs.History.{place_of}
use Rattle.rdf_session.specs.Session.{Session, Command, Reply, Commit, Done, Refused, Transition, all_states, fresh, now}
use Rattle.rdf_session.specs.Standing.{Run}

-- any command but an accepted commit
abbrev pub IsNoCommit : Command × Reply → Type 0
IsNoCommit (command, Refused fault) = Unit {0}
IsNoCommit (Commit, reply) = ⊥
IsNoCommit (command, reply) = Unit {0}

-- A commit leaves the state as it was, and is the end of all that could be undone, redone or rolled back to.
pub record HasCommitted (old new : Session) : Type 0 where
  pub state : now new ≡ now old
  pub alone : all_states new ≡ now old ∷ []
  pub no_mark : (name : List ℕ) → place_of name new.states ≡ None

abbrev pub CommitKeepsTheState : Type 0
CommitKeepsTheState = (old new : Session) → Transition old Commit Done new → HasCommitted old new

-- Where nothing was committed, the base is the state that the session began with, if it has no depth.
abbrev pub BaseIsTheFirst : Type 0
BaseIsTheFirst = (base_iri : Option (List ℕ)) (start : State) (events : List (Command × Reply)) (session : Session)
    → AllByRecursion IsNoCommit events → Run (fresh base_iri start) events session → session.base ≡ start

-- Else it is the state at the last commit, whatever commands came before and behind it.
abbrev pub BaseIsTheLastCommitted : Type 0
BaseIsTheLastCommitted = (base_iri : Option (List ℕ)) (start : State) (before behind : List (Command × Reply)) (at committed session : Session)
    → Run (fresh base_iri start) before at → Transition at Commit Done committed
    → AllByRecursion IsNoCommit behind → Run committed behind session → session.base ≡ now at
