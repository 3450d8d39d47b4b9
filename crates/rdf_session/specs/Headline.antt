-- The promise of the whole: what any commands with any replies leave.
use Rattle.std.specs.Prelude.{◌≡◌, ◌≢◌, ℕ, List, [], ◌∷◌, ◌++◌, cond, take, Option, Ok}
use Rattle.rdf_dataset.specs.State.{State, Change, applied, net_between, turned}
use Rattle.rdf_terms.specs.Quad.{QuadParts}
use Rattle.sparql_eval.specs.Operations.{steps}
use Rattle.sparql_syntax.specs.Update.{IsUpdate}
use Rattle.sparql_trees.specs.declared.operation.Operation.{Operation}
use Rattle.sparql_trees.specs.declared.operation.Request.{Request as UpdateRequest}
use Rattle.rdf_session.specs.Between.{Quietly}
use Rattle.rdf_session.specs.Documents.{IsDocument}
use Rattle.rdf_session.specs.Faults.{no_memory}
use Rattle.rdf_session.specs.History.{is_too_long, nothing, pushed}
use Rattle.rdf_session.specs.LoadLaws.{insertion}
use Rattle.rdf_session.specs.Request.{Request, Load, Update}
use Rattle.rdf_session.specs.Session.{Session, Command, Reply, Do, Undo, Redo, Commit, Changed, Refused, Transition, fresh, nets_between, now, with_depth}
use Rattle.rdf_session.specs.Standing.{Run, Requests, kept_after, requests_of}
use Rattle.rdf_session.specs.declared.fault.Counts.{Counts}
use Rattle.rdf_session.specs.declared.fault.KeeperFault.{KeeperFault}

-- ---- what requests make

-- These are the request's operations: those of its text, and of a load INSERT DATA of its document's quads (SPARQL 1.1 Update, section 3.1.1).
abbrev pub HasOperations : Option (List ℕ) → Request → List Operation → Type 0
HasOperations base_iri (Load format text) operations =
    (quads : List QuadParts) × IsDocument format base_iri text quads × (operations ≡ insertion quads ∷ [])
HasOperations base_iri (Update text) operations =
    (request : UpdateRequest) × IsUpdate base_iri text request × (operations ≡ request.operations)

-- and those of requests, one request after another
abbrev pub HaveOperations : Option (List ℕ) → List Request → List Operation → Type 0
HaveOperations base_iri [] operations = operations ≡ []
HaveOperations base_iri (request ∷ requests) operations =
    (first rest : List Operation) × HasOperations base_iri request first × HaveOperations base_iri requests rest × (operations ≡ first ++ rest)

-- Against the base IRI the requests make t of s, and no other state: they have one list of operations, which, one after another, lead there.
pub record MakeExactly (base_iri : Option (List ℕ)) (requests : List Request) (s t : State) : Type 0 where
  pub operations : List Operation
  pub theirs : HaveOperations base_iri requests operations
  pub no_others : (others : List Operation) → HaveOperations base_iri requests others → others ≡ operations
  pub lead : steps s operations ≡ Ok t

-- ---- which requests stand

-- those that the command commits: all up to the cursor; and one that is forgotten is committed by that
abbrev pub committed_by : Option ℕ → Requests → Command × Reply → List Request
committed_by depth h (command, Refused fault) = []
committed_by depth h (Commit, reply) = take h.cursor h.items
committed_by depth h (Do request, reply) = cond (is_too_long depth (pushed request h)) (take 1 (pushed request h).items) []
committed_by depth h (command, reply) = []

-- those that these commands commit
abbrev pub committed : Option ℕ → Requests → List (Command × Reply) → List Request
committed depth h [] = []
committed depth h (event ∷ events) = committed_by depth h event ++ committed depth (kept_after depth h event) events

-- those since the base, up to the cursor
abbrev pub standing_since : Option ℕ → List (Command × Reply) → List Request
standing_since depth events = take (requests_of depth nothing events).cursor (requests_of depth nothing events).items

-- The requests that still stand after these commands: those committed, and those since.
abbrev pub still_standing : Option ℕ → List (Command × Reply) → List Request
still_standing depth events = committed depth nothing events ++ standing_since depth events

-- ---- entries

-- The request made t of s, and the entry is the net between them: it leads from s to t, and turned from t to s.
pub record IsEntry (base_iri : Option (List ℕ)) (request : Request) (entry : Change) (s t : State) : Type 0 where
  pub made : MakeExactly base_iri (request ∷ []) s t
  pub net : entry ≡ net_between s t
  pub onward : applied entry s ≡ t
  pub back : applied (turned entry) t ≡ s

-- Each request has its entry, between the state before it and the one behind it.
abbrev pub HaveEntries : Option (List ℕ) → List Request → List Change → State → List State → Type 0
HaveEntries base_iri [] [] s [] = Unit {0}
HaveEntries base_iri (request ∷ requests) (entry ∷ entries) s (t ∷ states) =
    IsEntry base_iri request entry s t × HaveEntries base_iri requests entries t states
HaveEntries base_iri requests entries s states = ⊥

-- ---- the promise

-- What is promised where, under the depth, these commands with these replies led from the start to the session.
pub record Promise (depth : Option ℕ) (base_iri : Option (List ℕ)) (start : State) (events : List (Command × Reply)) (session : Session) : Type 0 where
  -- An accepted request leaves exactly the state that its operations make of the state before.
  pub exactly : (request : Request) (c : Counts) (new : Session) → Transition session (Do request) (Changed c) new
      → MakeExactly base_iri (request ∷ []) (now session) (now new)
  -- An undo then gives back the state before: quads, names of graphs and blank counter.
  pub undone : (request : Request) (c d : Counts) (mid later new : Session) → Transition session (Do request) (Changed c) mid
      → Quietly mid later → Transition later Undo (Changed d) new → now new ≡ now session
  -- And a redo then the state after.
  pub redone : (request : Request) (c d e : Counts) (mid later back after new : Session) → Transition session (Do request) (Changed c) mid
      → Quietly mid later → Transition later Undo (Changed d) back → Quietly back after → Transition after Redo (Changed e) new → now new ≡ now mid
  -- A refused command changes nothing, history and marks neither.
  pub unchanged : (command : Command) (fault : KeeperFault) (new : Session) → Transition session command (Refused fault) new → new ≡ session
  -- A request is refused only where its operations lead to no state, or memory is wanting.
  pub rightly : (request : Request) (fault : KeeperFault) (new : Session) → Transition session (Do request) (Refused fault) new → fault ≢ no_memory
      → (operations : List Operation) → HasOperations base_iri request operations → (t : State) → steps (now session) operations ≢ Ok t
  -- The base is exactly what the requests that were committed make of the start.
  pub lasting : MakeExactly base_iri (committed depth nothing events) start session.base
  -- The state is exactly what the requests that still stand make of it.
  pub standing : MakeExactly base_iri (still_standing depth events) start (now session)
  -- So another run after which the same requests stand leaves the same state, whatever its depth and whatever else was done and
  -- taken back.
  pub same_requests : (other : Option ℕ) (others : List (Command × Reply)) (another : Session)
      → Run (with_depth other (fresh base_iri start)) others another
      → still_standing other others ≡ still_standing depth events → now another ≡ now session
  -- Each request since the base, standing or to be redone, has its entry.
  pub entries : HaveEntries base_iri (requests_of depth nothing events).items (nets_between session.base session.states.items) session.base session.states.items

-- For every depth and every state to start with, after any commands with any replies, the promise is kept.
abbrev pub Headline : Type 0
Headline = (depth : Option ℕ) (base_iri : Option (List ℕ)) (start : State) (events : List (Command × Reply)) (session : Session)
    → Run (with_depth depth (fresh base_iri start)) events session → Promise depth base_iri start events session
