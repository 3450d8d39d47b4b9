-- The promise where a session that is taken up has a history already.
use Rattle.std.specs.Prelude.{◌≡◌, ◌≢◌, ℕ, List, [], ◌∷◌, ◌++◌, take, Option, Ok}
use Rattle.rdf_dataset.specs.State.{State}
use Rattle.sparql_eval.specs.Operations.{steps}
use Rattle.sparql_trees.specs.declared.operation.Operation.{Operation}
use Rattle.rdf_session.specs.Between.{Quietly}
use Rattle.rdf_session.specs.Faults.{no_memory}
use Rattle.rdf_session.specs.GivesBack.{IsPlaced}
use Rattle.rdf_session.specs.Headline.{HasOperations, HaveEntries, MakeExactly, Promise, committed, still_standing}
use Rattle.rdf_session.specs.History.{nothing}
use Rattle.rdf_session.specs.Request.{Request}
use Rattle.rdf_session.specs.Saved.{Restores}
use Rattle.rdf_session.specs.Session.{Session, Command, Reply, Do, Undo, Redo, Changed, Refused, Transition, fresh, nets_between, now, with_depth}
use Rattle.rdf_session.specs.Standing.{Run, Requests, Follows, requests_of}
use Rattle.rdf_session.specs.declared.fault.Counts.{Counts}
use Rattle.rdf_session.specs.declared.fault.KeeperFault.{KeeperFault}

-- These are the session's requests: each made the state behind it of the state before it. The cursor stands at the same place
-- in both, and so does each mark.
pub record HasHistory (requests : Requests) (session : Session) : Type 0 where
  pub each : Follows session.base_iri session.base requests.items session.states.items
  pub cursor : requests.cursor ≡ session.states.cursor
  pub marks : requests.marks ≡ session.states.marks
  pub placed : IsPlaced session

-- The requests that stand behind these commands, from a session on that has these requests, over the state that was its base:
-- those committed since, and those since the base, up to the cursor.
abbrev pub standing_behind : Option ℕ → Requests → List (Command × Reply) → List Request
standing_behind depth h events = committed depth h events ++ take (requests_of depth h events).cursor (requests_of depth h events).items

-- What is promised where these commands with these replies led from a session that has these requests to another.
pub record PromiseOnward (old : Session) (h : Requests) (events : List (Command × Reply)) (session : Session) : Type 0 where
  -- An accepted request leaves exactly the state that its operations make of the state before.
  pub exactly : (request : Request) (c : Counts) (new : Session) → Transition session (Do request) (Changed c) new
      → MakeExactly old.base_iri (request ∷ []) (now session) (now new)
  -- An undo then gives back the state before: quads, names of graphs and blank counter.
  pub undone : (request : Request) (c d : Counts) (mid later new : Session) → Transition session (Do request) (Changed c) mid
      → Quietly mid later → Transition later Undo (Changed d) new → now new ≡ now session
  -- And a redo then the state after.
  pub redone : (request : Request) (c d e : Counts) (mid later back after new : Session) → Transition session (Do request) (Changed c) mid
      → Quietly mid later → Transition later Undo (Changed d) back → Quietly back after → Transition after Redo (Changed e) new → now new ≡ now mid
  -- A refused command changes nothing, history and marks neither.
  pub unchanged : (command : Command) (fault : KeeperFault) (new : Session) → Transition session command (Refused fault) new → new ≡ session
  -- A request is refused only where its operations lead to no state, or memory is wanting.
  pub rightly : (request : Request) (fault : KeeperFault) (new : Session) → Transition session (Do request) (Refused fault) new → fault ≢ no_memory
      → (operations : List Operation) → HasOperations old.base_iri request operations → (t : State) → steps (now session) operations ≢ Ok t
  -- The base is exactly what the requests that were committed since make of the base before.
  pub lasting : MakeExactly old.base_iri (committed old.depth h events) old.base session.base
  -- The state is exactly what the requests that stand over that base make of it: those before that still stand among them.
  pub standing : MakeExactly old.base_iri (standing_behind old.depth h events) old.base (now session)
  -- So whatever else was done and taken back, before or since, the same requests over the same base leave the same state.
  pub same_requests : (other : Session) (g : Requests) (others : List (Command × Reply)) (another : Session)
      → HasHistory g other → other.base_iri ≡ old.base_iri → other.base ≡ old.base → Run other others another
      → standing_behind other.depth g others ≡ standing_behind old.depth h events → now another ≡ now session
  -- Each request since the base, standing or to be redone, has its entry.
  pub entries : HaveEntries old.base_iri (requests_of old.depth h events).items (nets_between session.base session.states.items) session.base session.states.items
  -- These requests are those of the session now, which may be taken up again.
  pub history : HasHistory (requests_of old.depth h events) session

-- From any session with a history, after any commands with any replies, the promise is kept.
abbrev pub PromisedOnward : Type 0
PromisedOnward = (old : Session) (h : Requests) (events : List (Command × Reply)) (session : Session)
    → HasHistory h old → Run old events session → PromiseOnward old h events session

-- Each session that commands led to has a history: that of the requests since its base.
abbrev pub ReachedHaveHistory : Type 0
ReachedHaveHistory = (depth : Option ℕ) (base_iri : Option (List ℕ)) (start : State) (before : List (Command × Reply)) (old : Session)
    → Run (with_depth depth (fresh base_iri start)) before old
    → HasHistory (requests_of depth nothing before) old × (old.depth ≡ depth) × (old.base_iri ≡ base_iri)

-- So from each session that commands led to, after any further commands, the promise is kept: from there on, and from the start,
-- as if all of them were one list. The requests that stand are those committed before, and those that stand over the base then.
abbrev pub PromiseGoesOn : Type 0
PromiseGoesOn = (depth : Option ℕ) (base_iri : Option (List ℕ)) (start : State) (before events : List (Command × Reply)) (old session : Session)
    → Run (with_depth depth (fresh base_iri start)) before old → Run old events session
    → PromiseOnward old (requests_of depth nothing before) events session × Promise depth base_iri start (before ++ events) session
    × (still_standing depth (before ++ events) ≡ committed depth nothing before ++ standing_behind depth (requests_of depth nothing before) events)

-- And of a session that begins at the state of a state text, under whatever depth, it is kept from that state on.
abbrev pub RestoredArePromised : Type 0
RestoredArePromised = (depth : Option ℕ) (base_iri : Option (List ℕ)) (text : List ℕ) (restored session : Session) (events : List (Command × Reply))
    → Restores base_iri text (Ok restored) → Run (with_depth depth restored) events session
    → Promise depth base_iri (now restored) events session
