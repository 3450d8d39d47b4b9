-- That what the promise speaks of comes about.
use Rattle.std.specs.Prelude.{◌≡◌, ℕ, ◌≤◌, List, [], ◌∷◌, Option, Ok}
use Rattle.rdf_dataset.specs.State.{State, last_number}
use Rattle.sparql_eval.specs.Operations.{steps}
use Rattle.sparql_trees.specs.declared.operation.Operation.{Operation}
use Rattle.rdf_session.specs.Depth.{IsDepth}
use Rattle.rdf_session.specs.GivesBack.{IsPlaced}
use Rattle.rdf_session.specs.Headline.{HasOperations}
use Rattle.rdf_session.specs.Request.{Request, Load}
use Rattle.rdf_session.specs.Session.{Session, Command, Reply, Do, Undo, Redo, Mark, Rollback, Commit, Changed, Done, Transition, fresh, now, with_depth}
use Rattle.rdf_session.specs.Standing.{Run}
use Rattle.rdf_session.specs.declared.fault.Counts.{Counts}
use Rattle.rdf_session.specs.declared.format.Format.TheVariants.{NQuads}

-- Where a request's operations lead to a state, it may be accepted, then undone, and then redone.
abbrev pub MayBeAccepted : Type 0
MayBeAccepted = (session : Session) (request : Request) (operations : List Operation) (t : State)
    → IsPlaced session → IsDepth session.depth
    → HasOperations session.base_iri request operations → steps (now session) operations ≡ Ok t
    → (mid back new : Session) × (c d e : Counts)
    × Transition session (Do request) (Changed c) mid × Transition mid Undo (Changed d) back × Transition back Redo (Changed e) new

-- the document of an empty text comes in and is marked, undone, redone, rolled back to and committed
abbrev pub each_command : Counts → Counts → Counts → Counts → List (Command × Reply)
each_command c d e f =
    (Do (Load NQuads []), Changed c) ∷ (Mark [], Done) ∷ (Undo, Changed d) ∷ (Redo, Changed e) ∷ (Rollback [], Changed f) ∷ (Commit, Done) ∷ []

-- Under each depth, from every state whose counter is right, some commands run, each kind of them among these.
abbrev pub EachCommandRuns : Type 0
EachCommandRuns = (depth : Option ℕ) (base_iri : Option (List ℕ)) (start : State) → IsDepth depth → start.next ≤ last_number
    → (session : Session) × (c d e f : Counts) × Run (with_depth depth (fresh base_iri start)) (each_command c d e f) session
