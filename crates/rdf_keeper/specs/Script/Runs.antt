-- What a session answers to its commands, one answer after another, and how it ends.
use Rattle.std.specs.Prelude.{◌≡◌, ◌≢◌, ◌⊎◌, ◌≤◌, ℕ, Bool, true, false, ◌&&◌, ◌||◌, List, [], ◌∷◌, ◌++◌, length, Option, None, Result, Ok, Err}
use Rattle.std.specs.Io.KnownBytes.{Consumes, IsAtEnd}
use Rattle.rdf_session.specs.Session.{Session}
use Rattle.rdf_keeper.specs.Script.Lines.{raw_lines, upto_last_end}
use Rattle.rdf_keeper.specs.Script.Commands.{Asked, commands}
use Rattle.rdf_keeper.specs.Script.Answers.{Answers}
use Rattle.rdf_keeper.specs.declared.script.status.Status.{Status}
use Rattle.rdf_keeper.specs.declared.script.status.Status.TheVariants.{Accepted, Refused, ReadFailed, WriteFailed}
use Rattle.rdf_keeper.specs.Script.Statuses.{no_memory}

-- the status after the last command
abbrev pub final : Status → Bool → Status
final Accepted true = Refused
final status refused = status

-- ---- what becomes of one command, where the outcome is how the session ended, or that it goes on

-- There is no memory to take it.
abbrev pub NotTaken : {O : Type 0} → (Status → O) → Session → List (List ℕ) → Session → O → Type 0
NotTaken ended old answers new outcome = (answers ≡ []) × (new ≡ old) × (outcome ≡ ended no_memory)

-- A write fails: a proper front of the answer is written, and the session is where the command led.
abbrev pub BreaksOff : {O : Type 0} → (Status → O) → List ℕ → Session → List (List ℕ) → Session → O → Type 0
BreaksOff ended text mid answers new outcome =
    (front rest : List ℕ) × (text ≡ front ++ rest) × (rest ≢ [])
    × (answers ≡ front ∷ []) × (new ≡ mid) × (outcome ≡ ended WriteFailed)

-- It is a refusal, and the first one ends the session.
abbrev pub Stops : {O : Type 0} → (Status → O) → Bool → List ℕ → Session → List (List ℕ) → Session → O → Type 0
Stops ended halts text mid answers new outcome =
    (halts ≡ true) × (answers ≡ text ∷ []) × (new ≡ mid) × (outcome ≡ ended Refused)

-- a command, the session, an answer to it, whether that is a refusal, and the session after it
abbrev pub AnswerRelation : Type 1
AnswerRelation = Asked → Session → List ℕ → Bool → Session → Type 0

-- how a session goes from command to command
pub record Course (O : Type 0) : Type 1 where
  -- the answers that a command may have
  pub May : AnswerRelation
  -- its first refusal ends it
  pub stop : Bool
  -- the outcome behind the last command, by whether something was refused
  pub behind : Bool → O
  -- the outcome where it ended before, with a status
  pub ended : Status → O

-- From old, with something refused or not so far, the commands may have these answers, and lead to new and the outcome.
abbrev pub Serves : {O : Type 0} → Course O → Bool → List Asked → Session → List (List ℕ) → Session → O → Type 0
Serves c refused [] old answers new outcome =
    -- all are answered, or memory for the next one is wanting
    (answers ≡ []) × (new ≡ old) × ((outcome ≡ c.behind refused) ⊎ (outcome ≡ c.ended no_memory))
Serves c refused (asked ∷ more) old answers new outcome =
    NotTaken c.ended old answers new outcome ⊎
    ((text : List ℕ) × (is_refused : Bool) × (mid : Session) × c.May asked old text is_refused mid ×
    (BreaksOff c.ended text mid answers new outcome
    ⊎ Stops c.ended (c.stop && is_refused) text mid answers new outcome
    -- or the next command comes
    ⊎ (((c.stop && is_refused) ≡ false) × (others : List (List ℕ)) × (answers ≡ text ∷ others)
    × Serves c (refused || is_refused) more mid others new outcome)))

-- up to the session's end: the status is that of a session that comes to the end of its commands, if nothing is refused
abbrev pub to_end : AnswerRelation → Bool → Status → Course Status
to_end May stop last = record { May = May; stop = stop; behind = final last; ended = λ s. s }

-- where more commands may come: `Ok` where the session goes on, and whether something was refused so far
abbrev pub so_far : Bool → Course (Result Bool Status)
so_far stop = record { May = Answers; stop = stop; behind = λ r. Ok r; ended = λ s. Err s }

abbrev pub Answered : Bool → Bool → List Asked → Session → List (List ℕ) → Session → Result Bool Status → Type 0
Answered stop refused cs old answers new outcome = Serves (so_far stop) refused cs old answers new outcome

-- ---- over the bytes that a reader gives

-- the most bytes of a read call
abbrev pub piece_size : ℕ
piece_size = 4096

-- what a session may read and answer, where the reader has before left and then after
pub record RunsOver (stop : Bool) (before after : Option (List ℕ)) (old : Session) (answers : List (List ℕ)) (new : Session) (status : Status) : Type 0 where
  -- what all read calls but the last gave, and what that one gave
  pub read : List ℕ
  pub last : List ℕ
  pub consumed : Consumes before after (read ++ last)
  pub one_piece : length last ≤ piece_size
  -- Before the last read call all commands wholly read were answered, and none of them had ended the session.
  pub at_once : (first others : List (List ℕ)) × (mid : Session) × (refused : Bool) × (answers ≡ first ++ others)
      × Answered stop false (commands false None (raw_lines (upto_last_end read))) old first mid (Ok refused)
  -- The reader's end was read, or a fault came, or nothing more was read.
  pub ends : (IsAtEnd after × Serves (to_end Answers stop Accepted) false (commands true None (raw_lines (read ++ last))) old answers new status)
      ⊎ Serves (to_end Answers stop ReadFailed) false (commands false None (raw_lines (upto_last_end (read ++ last)))) old answers new status
