-- What the refusals of a script leave.
use Rattle.std.specs.Prelude.{◌≡◌, ℕ, true, List}
use Rattle.rdf_session.specs.Session.{Session}
use Rattle.rdf_keeper.specs.Script.Answers.{Answers}
use Rattle.rdf_keeper.specs.Script.Commands.{Asked}

-- An answer of a script that is a refusal, of a line that is no command too, leaves the session as it was.
abbrev pub RefusedAnswersLeave : Type 0
RefusedAnswersLeave = (asked : Asked) (old new : Session) (text : List ℕ) → Answers asked old text true new → new ≡ old
