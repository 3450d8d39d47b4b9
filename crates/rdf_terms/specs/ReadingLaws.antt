-- What the readers of IRIs, quoted strings, characters and escapes answer is what stands there, and what stands there is
-- answered, whatever follows.
use Rattle.std.specs.Prelude.{◌≡◌, ◌≤◌, ℕ, ◌⊎◌, List, ◌∷◌, ◌++◌, length, Option, Some}
use Rattle.rdf_terms.specs.Escapes.{IsNumericEscape, IsShortEscape}

-- the front of the text has the form and says the value, and the rest follows it
abbrev pub StandsAt : {V : Type 0} → (List ℕ → V → Type 0) → List ℕ → V → List ℕ → Type 0
StandsAt Form cs value rest = (slice : List ℕ) × (cs ≡ slice ++ rest) × Form slice value

abbrev pub IsSoundReader : {V : Type 0} → (List ℕ → V → Type 0) → (List ℕ → Option (V × List ℕ)) → Type 0
IsSoundReader {V = V} Form read = (cs : List ℕ) (value : V) (rest : List ℕ) → read cs ≡ Some (value, rest) → StandsAt Form cs value rest

abbrev pub IsCompleteReader : {V : Type 0} → (List ℕ → V → Type 0) → (List ℕ → Option (V × List ℕ)) → Type 0
IsCompleteReader {V = V} Form read = (slice : List ℕ) (value : V) (rest : List ℕ) → Form slice value → read (slice ++ rest) ≡ Some (value, rest)

-- a UCHAR or an ECHAR, less its backslash (Turtle 1.1, section 6.5)
abbrev pub IsEscapeBehind : List ℕ → ℕ → Type 0
IsEscapeBehind unit c = IsNumericEscape (92 ∷ unit) c ⊎ IsShortEscape (92 ∷ unit) c

-- What is found to end a name does end one, and no name ends behind it.
pub record IsGreedy (IsName : List ℕ → Type 0) (end_at : List ℕ → Option (List ℕ)) : Type 0 where
  pub sound : (cs rest : List ℕ) → end_at cs ≡ Some rest → (name : List ℕ) × (cs ≡ name ++ rest) × IsName name
  pub claims : (name after : List ℕ) → IsName name → (rest : List ℕ) × (end_at (name ++ after) ≡ Some rest) × (length rest ≤ length after)
