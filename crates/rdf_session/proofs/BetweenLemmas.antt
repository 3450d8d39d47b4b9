-- Marks and refusals leave all of a session but its marks.
use Rattle.std.proofs.Common.{◌≡◌, List, [], ◌∷◌, ap, ◌∙◌}
use Rattle.std.specs.List.{AllByRecursion}
use Rattle.rdf_session.specs.Between.{IsQuiet, Quietly}
use Rattle.rdf_session.specs.History.{Marks}
use Rattle.rdf_session.specs.Request.{Request}
use Rattle.rdf_session.specs.Session.{Session, Command, Reply, Do, Undo, Redo, Mark, Rollback, Commit, Changed, Done, Refused, Transition, accepted, with_mark, with_marks}
use Rattle.rdf_session.specs.Standing.{Run}
use Rattle.rdf_session.specs.declared.fault.Counts.{Counts}

quiet_transition : (old new : Session) (c : Command) (r : Reply) → IsQuiet (c, r) → Transition old c r new → (marks : Marks) × (new ≡ with_marks marks old)
quiet_transition old new c (Refused fault) q st = (old.states.marks, st.1)
quiet_transition old new (Mark name) (Changed counts) q st = absurd st
quiet_transition old new (Mark name) Done q st = ((with_mark name old).states.marks, st)
quiet_transition old new (Do request) (Changed counts) q st = absurd q
quiet_transition old new (Do request) Done q st = absurd q
quiet_transition old new Undo (Changed counts) q st = absurd q
quiet_transition old new Undo Done q st = absurd q
quiet_transition old new Redo (Changed counts) q st = absurd q
quiet_transition old new Redo Done q st = absurd q
quiet_transition old new (Rollback name) (Changed counts) q st = absurd q
quiet_transition old new (Rollback name) Done q st = absurd q
quiet_transition old new Commit (Changed counts) q st = absurd q
quiet_transition old new Commit Done q st = absurd q

pub quiet_run : (events : List (Command × Reply)) (old new : Session) → AllByRecursion IsQuiet events → Run old events new → (marks : Marks) × (new ≡ with_marks marks old)
quiet_run [] old new q run = (old.states.marks, run)
quiet_run (event ∷ events) old new q run =
    let first = quiet_transition old run.0 event.0 event.1 q.0 run.1 in
    let rest = quiet_run events run.0 new q.1 run.2 in
    (rest.0, rest.1 ∙ ap (with_marks rest.0) first.1)

-- the session behind an accepted request, and such commands
pub quiet_accepted : (old mid later : Session) (request : Request) (c : Counts) (st : Transition old (Do request) (Changed c) mid) → Quietly mid later → (marks : Marks) × (later ≡ with_marks marks (accepted st.0 old))
quiet_accepted old mid later request c st quiet =
    let q = quiet_run quiet.0 mid later quiet.1 quiet.2 in (q.0, q.1 ∙ ap (with_marks q.0) st.2)
