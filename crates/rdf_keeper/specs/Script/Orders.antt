-- In which order a session reads its script and writes its answers.
use Rattle.std.specs.Prelude.{◌≡◌, ◌⊎◌, ◌≤◌, ℕ, Bool, true, false, if◌then◌else◌, List, [], ◌++◌, Option, None, Ok}
use Rattle.std.specs.List.{concat}
use Rattle.std.specs.Io.KnownBytes.{Appends, Consumes, IsAtEnd}
use Rattle.rdf_session.specs.Session.{Session}
use Rattle.rdf_streams.specs.Devices.{EndsWith, Event, IsOrderly, ReadFault, Took, WriteFault, given, has_end, has_failed, read_calls, taken}
use Rattle.rdf_keeper.specs.Script.Answers.{Answers}
use Rattle.rdf_keeper.specs.Script.Commands.{Asked, commands}
use Rattle.rdf_keeper.specs.Script.Lines.{raw_lines, upto_last_end}
use Rattle.rdf_keeper.specs.Script.Runs.{Answered, Serves, to_end, piece_size}
use Rattle.rdf_keeper.specs.declared.script.status.Status.{Status}
use Rattle.rdf_keeper.specs.declared.script.status.Status.TheVariants.{Accepted, ReadFailed, WriteFailed}

-- the commands that were wholly read: where the end was read, all of the script
abbrev pub commands_read : List Event → List Asked
commands_read log = if has_end log then commands true None (raw_lines (given log)) else commands false None (raw_lines (upto_last_end (given log)))

-- the status behind the last of them
abbrev pub status_behind : List Event → Status
status_behind log = if has_end log then Accepted else ReadFailed

-- The answers to all of them are written, and none of them ended the session: more may be read. More answers may come then.
abbrev pub AreAnswered : Bool → Session → List (List ℕ) → List Event → Type 0
AreAnswered stop start answers log =
    (first others : List (List ℕ)) × (mid : Session) × (refused : Bool) × (answers ≡ first ++ others) × (taken log ≡ concat first)
    × Answered stop false (commands_read log) start first mid (Ok refused)

-- How a session ends, by what was done. A fault that is told is the last call's; or so many read calls found no end.
abbrev pub EndsAs : ℕ → List Event → Status → Type 0
EndsAs calls log ReadFailed =
    EndsWith log ReadFault ⊎ ((has_failed log ≡ false) × (has_end log ≡ false) × (read_calls log ≡ calls))
EndsAs calls log WriteFailed = EndsWith log WriteFault ⊎ EndsWith log (Took [])
EndsAs calls log status = has_failed log ≡ false

-- what a session with so many read calls at most does, and how it ends
pub record Ran (calls : ℕ) (stop : Bool) (log : List Event) (old : Session) (answers : List (List ℕ)) (new : Session) (status : Status) : Type 0 where
  pub orderly : IsOrderly piece_size (AreAnswered stop old answers) log
  pub written : taken log ≡ concat answers
  pub served : Serves (to_end Answers stop (status_behind log)) false (commands_read log) old answers new status
  pub ends : EndsAs calls log status
  pub few_calls : read_calls log ≤ calls

-- a session over a reader and a writer, by what the one had left and has, and what the other held and holds
pub record RanOver (calls : ℕ) (stop : Bool) (remaining remaining' contents contents' : Option (List ℕ)) (log : List Event) (old : Session) (answers : List (List ℕ)) (new : Session) (status : Status) : Type 0 where
  pub ran : Ran calls stop log old answers new status
  pub consumed : Consumes remaining remaining' (given log)
  pub appended : Appends contents contents' (taken log)
  pub end : has_end log ≡ true → IsAtEnd remaining'
