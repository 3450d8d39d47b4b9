-- The reply to a request that was staged, and to an update that wasn't.
use Rattle.std.proofs.Common.{◌≡◌, ℕ, List, refl}
use Rattle.std.specs.Prelude.{Result, Ok, Err, IfOk, IfErr, OnErr}
use Rattle.rdf_dataset.specs.State.{State}
use Rattle.sparql_syntax.specs.Update.{IsUpdate}
use Rattle.sparql_trees.specs.declared.operation.Request.{Request as UpdateRequest}
use Rattle.rdf_session.specs.Inside.Staging.{StagesSteps, TellsSyntaxFault}
use Rattle.rdf_session.specs.Request.{Request, Update, Makes}
use Rattle.rdf_session.specs.Session.{Session, Transition, Do, Refused, now, accepted, counts_between, reply_of}
use Rattle.rdf_session.specs.declared.fault.Counts.{Counts}
use Rattle.rdf_session.specs.declared.fault.KeeperFault.{KeeperFault}
use Rattle.rdf_session.specs.Faults.{no_memory}
use Rattle.rdf_session.specs.declared.fault.KeeperFault.TheVariants.{NoMemory, Syntax, Apply}

pub accept_transition : (old new : Session) (request : Request) (after : State) (r : Result Counts KeeperFault) → Makes old.base_iri request (now old) after → IfOk r (λ counts. (new ≡ accepted after old) × (counts ≡ counts_between (now old) after)) → IfErr r (λ f. f ≡ no_memory) → OnErr r (new ≡ old) → Transition old (Do request) (reply_of r) new
accept_transition old new request after (Ok counts) makes ok refused err = (after, makes, ok.0, ok.1)
accept_transition old new request after (Err fault) makes ok refused err = rw refused (tt, err)

-- the text is no request
pub unread : (s : Session) (text : List ℕ) (f : KeeperFault) → TellsSyntaxFault s.base_iri text f → Transition s (Do (Update text)) (Refused f) s
unread s text (Syntax at) h = (h, refl)
unread s text (NoMemory _) h = (tt, refl)
unread s text _ h = absurd h

-- an operation is refused
pub stopped : (s : Session) (text : List ℕ) (request : UpdateRequest) (f : KeeperFault) → IsUpdate s.base_iri text request → StagesSteps (now s) request.operations (Err f) → Transition s (Do (Update text)) (Refused f) s
stopped s text request (Apply at) is h = ((request, is, h), refl)
stopped s text request (NoMemory _) is h = (tt, refl)
stopped s text request _ is h = absurd h
