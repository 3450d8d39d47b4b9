-- Where memory never lacks, a script has one output, but for the lines of some faults.
use Rattle.std.specs.Prelude.{◌≡◌, ◌≢◌, ◌⊎◌, ℕ, Bool, true, false, List, [], ◌∷◌, Option, Some, None}
use Rattle.std.specs.List.{AllByRecursion}
use Rattle.rdf_keeper.specs.Script.Answers.{Answers, reply_line}
use Rattle.rdf_keeper.specs.Script.Commands.{Asked, act, ask, bad, commands, show, unended}
use Rattle.rdf_keeper.specs.Script.Lines.{raw_lines}
use Rattle.rdf_session.specs.OneQueryReply.{IsFreeFault}
use Rattle.rdf_session.specs.OneReply.{HasFreeLine, SameButLine}
use Rattle.rdf_keeper.specs.Script.Runs.{Serves, to_end, RunsOver}
use Rattle.rdf_session.specs.Session.{Session, Refused as RefusedReply}
use Rattle.rdf_session.specs.declared.fault.KeeperFault.{KeeperFault}
use Rattle.rdf_session.specs.Faults.{no_memory}
use Rattle.rdf_keeper.specs.declared.script.status.Status.{Status}
use Rattle.rdf_keeper.specs.declared.script.status.Status.TheVariants.{Accepted, Refused}

-- the answer isn't that memory is wanting
abbrev pub FullAnswers : Asked → Session → List ℕ → Bool → Session → Type 0
FullAnswers c s text refused t = Answers c s text refused t × (text ≢ reply_line (RefusedReply no_memory))

-- the session came to its end
abbrev pub IsWhole : Status → Type 0
IsWhole Accepted = Unit {0}
IsWhole Refused = Unit {0}
IsWhole _ = ⊥

-- The answer refuses the command by this fault, whose line is the reader's own choice.
abbrev pub IsFree : Asked → KeeperFault → List ℕ → Type 0
IsFree (act command) fault text = HasFreeLine command fault × (text ≡ reply_line (RefusedReply fault))
IsFree (ask query) fault text = IsFreeFault fault × (text ≡ reply_line (RefusedReply fault))
IsFree (show topic) fault text = ⊥
IsFree bad fault text = ⊥
IsFree unended fault text = ⊥

-- Two answers to a command are the same; or both refuse it by one fault, but for its line, which is the reader's own choice.
abbrev pub SameAnswer : Asked → List ℕ → List ℕ → Type 0
SameAnswer c text other =
    (text ≡ other) ⊎
    ((fault another : KeeperFault) × IsFree c fault text × IsFree c another other × SameButLine fault another)

-- the same, answer by answer, to the first of the commands
abbrev pub SameAnswers : List Asked → List (List ℕ) → List (List ℕ) → Type 0
SameAnswers commands [] [] = Unit {0}
SameAnswers (c ∷ commands) (text ∷ texts) (other ∷ others) = SameAnswer c text other × SameAnswers commands texts others
SameAnswers commands texts others = ⊥

-- the answer has no line that is the reader's own choice
abbrev pub FirmAnswers : Asked → Session → List ℕ → Bool → Session → Type 0
FirmAnswers c s text refused t = FullAnswers c s text refused t × ((fault : KeeperFault) → ¬ IsFree c fault text)

-- Two whole runs of the same commands in which no answer is that memory is wanting have the same answers, one by one,
-- but for such lines, and end alike.
abbrev pub OneOutput : Type 0
OneOutput = (stop : Bool) (commands : List Asked) (s t u : Session) (answers others : List (List ℕ)) (status otherwise : Status)
    → Serves (to_end FullAnswers stop Accepted) false commands s answers t status → IsWhole status
    → Serves (to_end FullAnswers stop Accepted) false commands s others u otherwise → IsWhole otherwise
    → SameAnswers commands answers others × (t ≡ u) × (status ≡ otherwise)

-- Where no answer of one run has such a line, the answers of the other are the same.
abbrev pub OneText : Type 0
OneText = (stop : Bool) (commands : List Asked) (s t u : Session) (answers others : List (List ℕ)) (status otherwise : Status)
    → Serves (to_end FirmAnswers stop Accepted) false commands s answers t status → IsWhole status
    → Serves (to_end FullAnswers stop Accepted) false commands s others u otherwise → IsWhole otherwise
    → (answers ≡ others) × (t ≡ u) × (status ≡ otherwise)

-- ---- the same of the bytes that a session's reader gives, in the words of `run`

-- no answer is that memory is wanting
abbrev pub AreFull : List (List ℕ) → Type 0
AreFull answers = AllByRecursion (λ text. text ≢ reply_line (RefusedReply no_memory)) answers

-- Two sessions that begin alike and are given readers of the same bytes, in whatever pieces these come, in which no answer
-- is that memory is wanting, and which come to their end, have the same answers to the commands of these bytes, one by one,
-- but for such lines, and end alike.
abbrev pub OneOutputOfBytes : Type 0
OneOutputOfBytes = (stop : Bool) (text : List ℕ) (after other : Option (List ℕ)) (s t u : Session) (answers others : List (List ℕ)) (status otherwise : Status)
    → RunsOver stop (Some text) after s answers t status → IsWhole status → AreFull answers
    → RunsOver stop (Some text) other s others u otherwise → IsWhole otherwise → AreFull others
    → SameAnswers (commands true None (raw_lines text)) answers others × (t ≡ u) × (status ≡ otherwise)

-- no answer has a line that is the reader's own choice
abbrev pub AreFirm : List Asked → List (List ℕ) → Type 0
AreFirm commands [] = Unit {0}
AreFirm [] (text ∷ texts) = ⊥
AreFirm (c ∷ commands) (text ∷ texts) = ((fault : KeeperFault) → ¬ IsFree c fault text) × AreFirm commands texts

-- Where no answer of one of them has such a line, the answers of the other are the same, to the byte.
abbrev pub OneTextOfBytes : Type 0
OneTextOfBytes = (stop : Bool) (text : List ℕ) (after other : Option (List ℕ)) (s t u : Session) (answers others : List (List ℕ)) (status otherwise : Status)
    → RunsOver stop (Some text) after s answers t status → IsWhole status → AreFull answers → AreFirm (commands true None (raw_lines text)) answers
    → RunsOver stop (Some text) other s others u otherwise → IsWhole otherwise → AreFull others
    → (answers ≡ others) × (t ≡ u) × (status ≡ otherwise)
