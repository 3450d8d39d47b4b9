-- IRIs and quoted strings as slices of a text, and the texts that they say (Turtle 1.1, section 6.5).
use Rattle.std.specs.Prelude.{◌≡◌, ◌≢◌, ◌⊎◌, ℕ, false, List, [], ◌∷◌, ◌++◌}
use Rattle.std.specs.Str.{encode_utf8_all}
use Rattle.rdf_terms.specs.Iri.{is_forbidden}
use Rattle.rdf_terms.specs.Escapes.{IsNumericEscape, IsShortEscape, Writes}

-- itself or a UCHAR, and never a forbidden one
abbrev pub IsIriCharacter : List ℕ → ℕ → Type 0
IsIriCharacter unit c = (is_forbidden c ≡ false) × ((unit ≡ c ∷ []) ⊎ IsNumericEscape unit c)

-- itself, other than the quote, `\`, LF and CR, or an escape
abbrev pub IsStringCharacter : ℕ → List ℕ → ℕ → Type 0
IsStringCharacter quote unit c =
    ((unit ≡ c ∷ []) × (c ≢ quote) × (c ≢ 92) × (c ≢ 10) × (c ≢ 13)) ⊎ (IsNumericEscape unit c ⊎ IsShortEscape unit c)

-- IRIREF: `<`, characters, `>`
abbrev pub IsIriRef : List ℕ → List ℕ → Type 0
IsIriRef slice text =
    (body cs : List ℕ) × (slice ≡ 60 ∷ (body ++ 62 ∷ [])) × Writes IsIriCharacter body cs × (text ≡ encode_utf8_all cs)

-- a quote, characters, the quote
abbrev pub IsQuoted : ℕ → List ℕ → List ℕ → Type 0
IsQuoted quote slice text =
    (body cs : List ℕ) × (slice ≡ quote ∷ (body ++ quote ∷ [])) × Writes (IsStringCharacter quote) body cs × (text ≡ encode_utf8_all cs)
