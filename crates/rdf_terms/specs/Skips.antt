-- What follows characters of a class.
use Rattle.std.specs.Prelude.{◌≡◌, ℕ, Bool, List, [], ◌∷◌, Option, Some, None, if◌then◌else◌}

-- calls answer what the test answers
abbrev pub IsTest : (ℕ → Bool → Type 0) → (ℕ → Bool) → Type 0
IsTest answers passes = (c : ℕ) (answer : Bool) → answers c answer → answer ≡ passes c

-- what follows the characters that pass
unfoldable pub skip : (ℕ → Bool) → List ℕ → List ℕ
skip passes [] = []
skip passes (c ∷ cs) = if passes c then skip passes cs else c ∷ cs

-- what follows one that may be first and all that may follow
unfoldable pub some_of : (ℕ → Bool) → (ℕ → Bool) → List ℕ → Option (List ℕ)
some_of first passes [] = None
some_of first passes (c ∷ cs) = if first c then Some (skip passes cs) else None

-- what follows one that passes
unfoldable pub one_of : (ℕ → Bool) → List ℕ → Option (List ℕ)
one_of passes [] = None
one_of passes (c ∷ cs) = if passes c then Some cs else None
