-- What escapes write: relations between a slice of characters and what it says (Turtle 1.1, sections 6.4 and 6.5: UCHAR, ECHAR).
use Rattle.std.specs.Prelude.{◌≡◌, ◌≢◌, ◌<◌, ℕ, ◌+◌, ◌*◌, ◌⊎◌, List, [], ◌∷◌, ◌++◌, length, Option, Some, MatchOption}
use Rattle.std.specs.Char.{digit_value, IsScalar}
use Rattle.std.specs.Str.{encode_utf8_all, chars}
use Rattle.rdf_terms.specs.Characters.{short_escape}

abbrev pub AreHexDigits : List ℕ → Type 0
AreHexDigits [] = Unit {0}
AreHexDigits (d ∷ ds) = (digit_value d < 16) × AreHexDigits ds

-- the number that digits write behind others that write `before`
abbrev pub number_after : ℕ → List ℕ → ℕ
number_after before [] = before
number_after before (d ∷ ds) = number_after (before * 16 + digit_value d) ds

-- UCHAR: `\u` and four hexadecimal digits, or `\U` and eight, for a character and no surrogate
pub record IsNumericEscape (unit : List ℕ) (c : ℕ) : Type 0 where
  pub digits : List ℕ
  pub hex : AreHexDigits digits
  pub form : ((unit ≡ 92 ∷ 117 ∷ digits) × (length digits ≡ 4)) ⊎ ((unit ≡ 92 ∷ 85 ∷ digits) × (length digits ≡ 8))
  pub value : number_after 0 digits ≡ c
  pub scalar : IsScalar c

-- ECHAR: a backslash and a letter
abbrev pub IsShortEscape : List ℕ → ℕ → Type 0
IsShortEscape unit c = (letter : ℕ) × (unit ≡ 92 ∷ letter ∷ []) × (short_escape letter ≡ Some c)

-- itself, other than a backslash, or an escape
abbrev pub IsCharacter : List ℕ → ℕ → Type 0
IsCharacter unit c = ((unit ≡ c ∷ []) × (c ≢ 92)) ⊎ (IsNumericEscape unit c ⊎ IsShortEscape unit c)

-- The slice writes the characters one after another, each as Form has it.
abbrev pub Writes : (List ℕ → ℕ → Type 0) → List ℕ → List ℕ → Type 0
Writes Form slice [] = slice ≡ []
Writes Form slice (c ∷ cs) = (first others : List ℕ) × (slice ≡ first ++ others) × Form first c × Writes Form others cs

-- the value that the text writes, or nothing where it writes none
abbrev pub Unescapes : List ℕ → Option (List ℕ) → Type 0
Unescapes text value =
    MatchOption value ((cs : List ℕ) → ¬ Writes IsCharacter (chars text) cs) (λ v. (cs : List ℕ) × Writes IsCharacter (chars text) cs × (v ≡ encode_utf8_all cs))

-- a text writes one value at most
abbrev pub WritesOnce : Type 0
WritesOnce = (text cs ds : List ℕ) → Writes IsCharacter text cs → Writes IsCharacter text ds → cs ≡ ds
