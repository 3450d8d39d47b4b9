-- What is promised of a script: its commands, with the replies that its answers tell, are those of a session.
use Rattle.std.specs.Prelude.{◌≡◌, ◌⊎◌, ℕ, Bool, true, false, List, [], ◌∷◌, ◌++◌, Option, None}
use Rattle.std.specs.Io.KnownBytes.{Consumes}
use Rattle.rdf_dataset.specs.State.{State}
use Rattle.rdf_session.specs.GivesBack.{IsPlaced}
use Rattle.rdf_session.specs.Headline.{Promise}
use Rattle.rdf_session.specs.Request.{Request}
use Rattle.rdf_session.specs.Session.{Session, Command, Reply, Do, Undo, Redo, Mark, fresh, now, with_depth}
use Rattle.rdf_session.specs.Standing.{Run}
use Rattle.rdf_keeper.specs.Script.Answers.{Answers, reply_line}
use Rattle.rdf_keeper.specs.Script.Commands.{Asked, act, ask, bad, commands, show, unended}
use Rattle.rdf_keeper.specs.Script.Lines.{raw_lines, upto_last_end}
use Rattle.rdf_keeper.specs.Script.Runs.{Serves, to_end, RunsOver}
use Rattle.rdf_keeper.specs.declared.script.status.Status.{Status}
use Rattle.rdf_keeper.specs.declared.script.status.Status.TheVariants.{WriteFailed}

-- The answer is the reply's line; or where a write failed a front of it, with nothing behind.
abbrev pub Tells : Status → Reply → List ℕ → List (List ℕ) → Type 0
Tells status reply text behind =
    (text ≡ reply_line reply)
    ⊎ ((rest : List ℕ) × (reply_line reply ≡ text ++ rest) × (behind ≡ []) × (status ≡ WriteFailed))

-- Of what is asked, as far as there are answers, these are the commands, with the replies that the answers tell.
abbrev pub AreTold : Status → List Asked → List (List ℕ) → List (Command × Reply) → Type 0
AreTold status asked [] events = events ≡ []
AreTold status [] (text ∷ texts) events = ⊥
AreTold status (act command ∷ asked) (text ∷ texts) events =
    (reply : Reply) × (others : List (Command × Reply)) × (events ≡ (command, reply) ∷ others)
    × Tells status reply text texts × AreTold status asked texts others
AreTold status (ask query ∷ asked) (text ∷ texts) events = AreTold status asked texts events
AreTold status (show topic ∷ asked) (text ∷ texts) events = AreTold status asked texts events
AreTold status (bad ∷ asked) (text ∷ texts) events = AreTold status asked texts events
AreTold status (unended ∷ asked) (text ∷ texts) events = AreTold status asked texts events

-- However commands are answered, those of the session, with these replies, lead from its beginning to its end.
abbrev pub AnswersAreTransitions : Type 0
AnswersAreTransitions = (stop : Bool) (last : Status) (refused : Bool) (asked : List Asked) (old : Session) (answers : List (List ℕ)) (new : Session) (status : Status)
    → Serves (to_end Answers stop last) refused asked old answers new status
    → (events : List (Command × Reply)) × AreTold status asked answers events × Run old events new

-- ---- over bytes

-- the commands of a whole text, or those of its whole lines
abbrev pub AreAskedBy : List ℕ → List Asked → Type 0
AreAskedBy text asked =
    (asked ≡ commands true None (raw_lines text)) ⊎ (asked ≡ commands false None (raw_lines (upto_last_end text)))

-- The promise is kept where a script over these bytes has led from the start to the session, with these answers.
pub record IsPromised (depth : Option ℕ) (base_iri : Option (List ℕ)) (start : State) (text : List ℕ) (answers : List (List ℕ)) (session : Session) (status : Status) : Type 0 where
  pub asked : List Asked
  pub theirs : AreAskedBy text asked
  pub events : List (Command × Reply)
  pub told : AreTold status asked answers events
  pub promise : Promise depth base_iri start events session

-- For every depth and every state to start with it is kept of each script, over the bytes that were read, however it ended.
abbrev pub ScriptsArePromised : Type 0
ScriptsArePromised = (depth : Option ℕ) (base_iri : Option (List ℕ)) (start : State) (stop : Bool) (before after : Option (List ℕ)) (answers : List (List ℕ)) (session : Session) (status : Status)
    → RunsOver stop before after (with_depth depth (fresh base_iri start)) answers session status
    → (read : List ℕ) × Consumes before after read × IsPromised depth base_iri start read answers session status

-- ---- what comes between

-- a query, a look, a mark, and whatever is refused
abbrev pub IsQuietAnswer : Asked → Bool → Type 0
IsQuietAnswer asked true = Unit {0}
IsQuietAnswer (ask query) false = Unit {0}
IsQuietAnswer (show topic) false = Unit {0}
IsQuietAnswer (act (Mark name)) false = Unit {0}
IsQuietAnswer asked false = ⊥

-- from one session to the other by such answers alone, if any
abbrev pub AnswersQuietly : List Asked → Session → Session → Type 0
AnswersQuietly [] old new = new ≡ old
AnswersQuietly (asked ∷ more) old new =
    (text : List ℕ) × (refused : Bool) × (mid : Session) × IsQuietAnswer asked refused
    × Answers asked old text refused mid × AnswersQuietly more mid new

-- The next `%undo` that is accepted behind a request gives back the state before it, whatever queries, looks, marks and refusals
-- come between.
abbrev pub UndoneInAScript : Type 0
UndoneInAScript = (old mid later new : Session) (request : Request) (between : List Asked) (text other : List ℕ) → IsPlaced old
    → Answers (act (Do request)) old text false mid → AnswersQuietly between mid later
    → Answers (act Undo) later other false new → now new ≡ now old

-- And the next `%redo` that is accepted behind that the state after.
abbrev pub RedoneInAScript : Type 0
RedoneInAScript = (old mid later back after new : Session) (request : Request) (between behind : List Asked) (text other another : List ℕ) → IsPlaced old
    → Answers (act (Do request)) old text false mid → AnswersQuietly between mid later
    → Answers (act Undo) later other false back → AnswersQuietly behind back after
    → Answers (act Redo) after another false new → now new ≡ now mid
