-- What undo, redo and rollback give back, and what refusals leave.
use Rattle.std.specs.Prelude.{◌≡◌, ℕ, ◌≤◌, List, [], ◌∷◌, length, Option}
use Rattle.rdf_dataset.specs.State.{State}
use Rattle.rdf_session.specs.Between.{Quietly}
use Rattle.rdf_session.specs.Depth.{IsDepth, IsWithin}
use Rattle.rdf_session.specs.History.{LieIn}
use Rattle.rdf_session.specs.Standing.{Run}
use Rattle.rdf_session.specs.Request.{Request}
use Rattle.rdf_session.specs.Session.{Session, Command, Reply, Do, Undo, Redo, Mark, Rollback, Changed, Done, Refused, Transition, counts_between, fresh, now, with_depth, with_marks}
use Rattle.rdf_session.specs.declared.fault.Counts.{Counts}
use Rattle.rdf_session.specs.declared.fault.KeeperFault.{KeeperFault}

-- the cursor lies in the list: at the base, or behind one of the states
abbrev pub IsPlaced : Session → Type 0
IsPlaced s = s.states.cursor ≤ length s.states.items

-- and so does each mark; and it has no more states than its depth
pub record IsWholeSession (s : Session) : Type 0 where
  pub cursor : IsPlaced s
  pub marks : LieIn (length s.states.items) s.states.marks
  pub depth : IsDepth s.depth
  pub within : IsWithin s.depth (length s.states.items)

-- After any commands with any replies a session that began without history is whole.
abbrev pub RunsAreWhole : Type 0
RunsAreWhole = (depth : Option ℕ) (base_iri : Option (List ℕ)) (start : State) (events : List (Command × Reply)) (session : Session)
    → IsDepth depth → Run (with_depth depth (fresh base_iri start)) events session → IsWholeSession session

-- The next undo behind an accepted request, whatever marks and refusals come between, gives back quads, graph names and counter;
-- its counts are those of the request, turned.
abbrev pub UndoGivesBack : Type 0
UndoGivesBack = (old mid later new : Session) (request : Request) (c d : Counts) → IsPlaced old
    → Transition old (Do request) (Changed c) mid → Quietly mid later → Transition later Undo (Changed d) new
    → (now new ≡ now old) × (d.added ≡ c.removed) × (d.removed ≡ c.added)

-- The next redo behind that, whatever marks and refusals come between, gives again the session that the request had left, its
-- history too, with the marks that were put since; its counts are those of the request.
abbrev pub RedoGivesAgain : Type 0
RedoGivesAgain = (old mid later back after new : Session) (request : Request) (c d e : Counts) → IsPlaced old
    → Transition old (Do request) (Changed c) mid → Quietly mid later → Transition later Undo (Changed d) back → Quietly back after
    → Transition after Redo (Changed e) new → (new ≡ with_marks after.states.marks mid) × (e ≡ c)

-- the session after these requests, all accepted
abbrev pub Accepts : Session → List Request → Session → Type 0
Accepts old [] new = new ≡ old
Accepts old (request ∷ requests) new = (mid : Session) × (c : Counts) × Transition old (Do request) (Changed c) mid × Accepts mid requests new

-- A rollback to a mark that was put where the session stood gives back that state, whatever requests were accepted since.
abbrev pub RollbackGivesBack : Type 0
RollbackGivesBack = (old marked mid new : Session) (name : List ℕ) (requests : List Request) (c : Counts) → IsPlaced old
    → Transition old (Mark name) Done marked → Accepts marked requests mid → Transition mid (Rollback name) (Changed c) new
    → (now new ≡ now old) × (c ≡ counts_between (now mid) (now old))

-- A refused command leaves the session as it was, all of it.
abbrev pub RefusalsLeave : Type 0
RefusalsLeave = (old new : Session) (command : Command) (fault : KeeperFault) → Transition old command (Refused fault) new → new ≡ old
