-- What the log of a session says of each of its calls, wherever it stands.
use Rattle.std.specs.Prelude.{◌≡◌, ◌≤◌, ℕ, Bool, true, false, List, [], ◌∷◌, ◌++◌, length, Ok}
use Rattle.std.specs.List.{concat}
use Rattle.rdf_session.specs.Session.{Session}
use Rattle.rdf_streams.specs.Devices.{Event, Gave, IsOrderly, ReadFault, Took, is_failure, read_calls, taken}
use Rattle.rdf_keeper.specs.Script.Orders.{AreAnswered, Ran, commands_read}
use Rattle.rdf_keeper.specs.Script.Runs.{Answered, piece_size}
use Rattle.rdf_keeper.specs.declared.script.status.Status.{Status}

-- Before each read call all commands that were wholly read are answered. It asks for no more than a piece.
abbrev pub ReadsComeBehindAnswers : Type 0
ReadsComeBehindAnswers = (stop : Bool) (start : Session) (answers : List (List ℕ)) (before : List Event) (bytes : List ℕ) (after : List Event)
    → IsOrderly piece_size (AreAnswered stop start answers) (before ++ Gave bytes ∷ after) → AreAnswered stop start answers before × (length bytes ≤ piece_size)

abbrev pub FailedReadsComeBehindAnswers : Type 0
FailedReadsComeBehindAnswers = (stop : Bool) (start : Session) (answers : List (List ℕ)) (before after : List Event)
    → IsOrderly piece_size (AreAnswered stop start answers) (before ++ ReadFault ∷ after) → AreAnswered stop start answers before

-- Where the first refusal ends a session, none of the answers before a read call is one.
abbrev pub NothingIsReadBehindARefusal : Type 0
NothingIsReadBehindARefusal = (start : Session) (answers : List (List ℕ)) (before : List Event) → AreAnswered true start answers before
    → (first : List (List ℕ)) × (mid : Session) × (taken before ≡ concat first) × Answered true false (commands_read before) start first mid (Ok false)

-- No read call comes behind the end.
abbrev pub NothingIsReadBehindTheEnd : Type 0
NothingIsReadBehindTheEnd = (stop : Bool) (start : Session) (answers : List (List ℕ)) (before after : List Event)
    → IsOrderly piece_size (AreAnswered stop start answers) (before ++ Gave [] ∷ after) → read_calls after ≡ 0

-- No call comes behind one that failed, nor behind a write call that took nothing.
abbrev pub NothingComesBehindAFailure : Type 0
NothingComesBehindAFailure = (stop : Bool) (start : Session) (answers : List (List ℕ)) (before : List Event) (e : Event) (after : List Event)
    → IsOrderly piece_size (AreAnswered stop start answers) (before ++ e ∷ after) → is_failure e ≡ true → after ≡ []

-- What was written up to a write call is a front of as many answers as commands were wholly read then.
abbrev pub WritesAreAnswers : Type 0
WritesAreAnswers = (calls : ℕ) (stop : Bool) (start new : Session) (answers : List (List ℕ)) (status : Status) (before : List Event) (bytes : List ℕ) (after : List Event)
    → Ran calls stop (before ++ Took bytes ∷ after) start answers new status
    → (first others : List (List ℕ)) × (rest : List ℕ) × (answers ≡ first ++ others) × (length first ≤ length (commands_read before)) × (concat first ≡ (taken before ++ bytes) ++ rest)
