-- How the parts of a run come one behind another. A part leads from a state to a state, which is the folder that opens files, and what
-- standard input has left where it may be read.
use Rattle.std.specs.Prelude.{◌≡◌, ◌⊎◌, ℕ, List, [], Option, Result, Ok, Err}
use Rattle.std.specs.Io.KnownBytes.{Appends}
use Rattle.rdf_keeper.specs.declared.program.outcome.Outcome.{Outcome}

-- From a state a part may have this result, which is a value, or how a fault ends the program, and lead to a state.
abbrev pub Part : Type 0 → Type 0 → Type 1
Part S A = S → Result A Outcome → S → Type 0

-- the result of a value that is made of another
abbrev pub mapped : {A B : Type 0} → (A → B) → Result A Outcome → Result B Outcome
mapped f (Ok value) = Ok (f value)
mapped f (Err outcome) = Err outcome

-- Nothing is opened or read.
abbrev pub Stays : {S R : Type 0} → (R → Type 0) → S → R → S → Type 0
Stays Holds old result new = Holds result × (new ≡ old)

-- First one part, and then the next, with its value, unless it ends the program.
abbrev pub Then : {S A B : Type 0} → Part S A → (A → Part S B) → Part S B
Then {S} {A} first next old result new =
    ((outcome : Outcome) × first old (Err outcome) new × (result ≡ Err outcome))
    ⊎ ((value : A) × (mid : S) × first old (Ok value) mid × next value mid result new)

-- The same, where the next ends the program.
abbrev pub Ends : {S A : Type 0} → Part S A → (A → S → Outcome → S → Type 0) → S → Outcome → S → Type 0
Ends {S} {A} first next old outcome new =
    first old (Err outcome) new ⊎ ((value : A) × (mid : S) × first old (Ok value) mid × next value mid outcome new)

-- The same, where nothing is written if the first does, between what standard output held before and holds after.
abbrev pub EndsUnwritten : {S A : Type 0} → Option (List ℕ) → Option (List ℕ) → Part S A → (A → S → Outcome → S → Type 0) → S → Outcome → S → Type 0
EndsUnwritten {S} {A} before after first next old outcome new =
    (first old (Err outcome) new × Appends before after [])
    ⊎ ((value : A) × (mid : S) × first old (Ok value) mid × next value mid outcome new)
