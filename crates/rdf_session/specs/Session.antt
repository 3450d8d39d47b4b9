-- A session: its base IRI, its depth, the base state, the states that accepted requests led to, a cursor and marks, and its steps.
use Rattle.std.specs.Prelude.{◌≡◌, ℕ, ◌+◌, ◌-◌, ◌<◌, ◌≤◌, cond, List, [], ◌∷◌, length, slice_index_or, Option, Some, None, Result, Ok, Err, refl}
use Rattle.std.specs.FinSet as set
use Rattle.std.specs.Coded.{Coded, code_by, coded×, coded_ℕ, coded_list, coded_option}
use Rattle.rdf_dataset.specs.State.{State, Change, state_code, net_between}
use Rattle.rdf_session.specs.History.{History, Marks, history_code, is_too_long, nothing, pushed, moved, marked, place_of, without_first}
use Rattle.rdf_session.specs.Request.{Request, Makes, IsRefused}
use Rattle.rdf_terms.specs.declared.fault.NoMemory.{NoMemory as NoMemoryFault}
use Rattle.rdf_session.specs.declared.fault.Counts.{Counts}
use Rattle.rdf_session.specs.declared.fault.KeeperFault.{KeeperFault}
use Rattle.rdf_session.specs.declared.fault.KeeperFault.TheVariants.{NothingToUndo, NothingToRedo, NoSuchMark, MarkAhead, NoMemory}

-- S0, and S1 .. Sm in a history, of which no more are kept than the depth
pub record Session : Type 0 where
  pub base_iri : Option (List ℕ)
  pub depth : Option ℕ
  pub base : State
  pub states : History State

abbrev pub session_code : Coded Session
session_code =
    code_by (Option (List ℕ) × (Option ℕ × (State × History State)))
    (coded× (coded_option (coded_list coded_ℕ)) (coded× (coded_option coded_ℕ) (coded× state_code (history_code state_code))))
    (λ s. (s.base_iri, (s.depth, (s.base, s.states)))) (λ p. record { base_iri = p.0; depth = p.1.0; base = p.1.1.0; states = p.1.1.1 }) (λ _. refl)

-- S0 .. Sm
abbrev pub all_states : Session → List State
all_states s = s.base ∷ s.states.items

-- Si
abbrev pub state_at : Session → ℕ → State
state_at s i = slice_index_or (all_states s) i s.base

-- Sk
abbrev pub now : Session → State
now s = state_at s s.states.cursor

-- the nets between neighbours
abbrev pub nets_between : State → List State → List Change
nets_between s [] = []
nets_between s (t ∷ ts) = net_between s t ∷ nets_between t ts

-- a session without history, of which nothing is forgotten
abbrev pub fresh : Option (List ℕ) → State → Session
fresh base_iri s = record { base_iri = base_iri; depth = None; base = s; states = nothing }

-- with this depth
abbrev pub with_depth : Option ℕ → Session → Session
with_depth depth s = record { base_iri = s.base_iri; depth = depth; base = s.base; states = s.states }

-- with one more state behind the cursor
abbrev pub grown : State → Session → Session
grown after s = record { base_iri = s.base_iri; depth = s.depth; base = s.base; states = pushed after s.states }

-- S0 is forgotten: S1 is the base
abbrev pub forgetting : Session → Session
forgetting s = record { base_iri = s.base_iri; depth = s.depth; base = state_at s 1; states = without_first s.states }

-- after an accepted request that led to the state: where m is then above the depth S0 is forgotten
abbrev pub accepted : State → Session → Session
accepted after s = cond (is_too_long s.depth (grown after s).states) (forgetting (grown after s)) (grown after s)

abbrev pub at_place : ℕ → Session → Session
at_place k s = record { base_iri = s.base_iri; depth = s.depth; base = s.base; states = moved k s.states }

abbrev pub with_mark : List ℕ → Session → Session
with_mark name s = record { base_iri = s.base_iri; depth = s.depth; base = s.base; states = marked name s.states }

-- with these marks alone
abbrev pub with_marks : Marks → Session → Session
with_marks marks s = record {
  base_iri = s.base_iri;
  depth = s.depth;
  base = s.base;
  states = record { items = s.states.items; cursor = s.states.cursor; marks = marks };
}

-- the sizes of the two quad sets of the net
abbrev pub counts_between : State → State → Counts
counts_between s t = record { added = set.len (net_between s t).added; removed = set.len (net_between s t).removed }

pub data Command : Type 0 where
  Do : Request → Command
  Undo : Command
  Redo : Command
  Mark : List ℕ → Command
  Rollback : List ℕ → Command
  Commit : Command

pub data Reply : Type 0 where
  Changed : Counts → Reply
  Done : Reply
  Refused : KeeperFault → Reply

-- some quad or name was added, or removed
abbrev pub AddsSome : Change → Type 0
AddsSome net = ¬ ((net.added ≡ set.empty) × (net.names_added ≡ set.empty))

abbrev pub RemovesSome : Change → Type 0
RemovesSome net = ¬ ((net.removed ≡ set.empty) × (net.names_removed ≡ set.empty))

-- why a command may be refused at a session
abbrev pub MayRefuse : Session → Command → KeeperFault → Type 0
MayRefuse s (Do request) (NoMemory _) = Unit {0}
MayRefuse s (Do request) fault = IsRefused s.base_iri request (now s) fault
MayRefuse s Undo NothingToUndo = s.states.cursor ≡ 0
-- going back puts in what the entry removed
MayRefuse s Undo (NoMemory _) = (0 < s.states.cursor) × RemovesSome (net_between (state_at s (s.states.cursor - 1)) (now s))
MayRefuse s Redo NothingToRedo = s.states.cursor ≡ length s.states.items
MayRefuse s Redo (NoMemory _) = (s.states.cursor < length s.states.items) × AddsSome (net_between (now s) (state_at s (s.states.cursor + 1)))
MayRefuse s (Mark name) (NoMemory _) = Unit {0}
MayRefuse s (Rollback name) NoSuchMark = place_of name s.states ≡ None
MayRefuse s (Rollback name) MarkAhead = (k : ℕ) × (place_of name s.states ≡ Some k) × (s.states.cursor < k)
MayRefuse s (Rollback name) (NoMemory _) = Unit {0}
MayRefuse s _ _ = ⊥

-- from old, the command may have this reply and lead to new
abbrev pub Transition : Session → Command → Reply → Session → Type 0
Transition old c (Refused fault) new = MayRefuse old c fault × (new ≡ old)
Transition old (Do request) (Changed counts) new =
    (after : State) × Makes old.base_iri request (now old) after × (new ≡ accepted after old) × (counts ≡ counts_between (now old) after)
Transition old Undo (Changed counts) new =
    (0 < old.states.cursor) × (new ≡ at_place (old.states.cursor - 1) old) × (counts ≡ counts_between (now old) (now new))
Transition old Redo (Changed counts) new =
    (old.states.cursor < length old.states.items) × (new ≡ at_place (old.states.cursor + 1) old) × (counts ≡ counts_between (now old) (now new))
Transition old (Rollback name) (Changed counts) new =
    (k : ℕ) × (place_of name old.states ≡ Some k) × (k ≤ old.states.cursor) × (new ≡ at_place k old) × (counts ≡ counts_between (now old) (now new))
Transition old (Mark name) Done new = new ≡ with_mark name old
Transition old Commit Done new = new ≡ with_depth old.depth (fresh old.base_iri (now old))
Transition old _ _ new = ⊥

abbrev pub reply_of : Result Counts KeeperFault → Reply
reply_of (Ok counts) = Changed counts
reply_of (Err fault) = Refused fault

abbrev pub reply_of_mark : Result (Unit {0}) NoMemoryFault → Reply
reply_of_mark (Ok u) = Done
reply_of_mark (Err fault) = Refused (NoMemory fault)
