-- A refusal leaves the session as it was.
use Rattle.std.proofs.Common.{◌≡◌, true}
use mathlib.Core.Bool.{true≢false}
use Rattle.rdf_session.specs.Session.{Session, Command, Reply, Changed, Done, Refused, Transition}
use Rattle.rdf_keeper.specs.Script.Answers.{is_refused}
use Rattle.rdf_keeper.specs.Script.Commands.{act, ask, bad, show, unended}
use Rattle.rdf_keeper.specs.Script.Refusals.{RefusedAnswersLeave}

refused_reply : (old new : Session) (c : Command) (r : Reply) → true ≡ is_refused r → Transition old c r new → new ≡ old
refused_reply old new c (Refused fault) e st = st.1
refused_reply old new c (Changed counts) e st = absurd (true≢false e)
refused_reply old new c Done e st = absurd (true≢false e)

pub refused_answers_leave : RefusedAnswersLeave
refused_answers_leave (act c) old new text a = refused_reply old new c a.0 a.3 a.1
refused_answers_leave (ask query) old new text a = a.0
refused_answers_leave (show topic) old new text a = a.0
refused_answers_leave bad old new text a = a.0
refused_answers_leave unended old new text a = a.0
