-- What a string of JSON says (RFC 8259, section 7), over the bytes of its UTF-8 text: what isn't ASCII stands for itself.
use Rattle.std.specs.Prelude.{◌≡◌, ◌≢◌, ◌<◌, ◌≤◌, ℕ, ◌==◌, ◌⊎◌, if◌then◌else◌, List, [], ◌∷◌, length, Option, Some, None}
use Rattle.std.specs.List.{flat_map}
use Rattle.rdf_terms.specs.Escapes.{AreHexDigits, Writes, number_after}
use Rattle.sparql_results.specs.JsonText.{json_byte}

-- what a letter behind a backslash stands for: `"`, `\` and `/` themselves, b, f, n, r and t
abbrev pub letter_value : ℕ → Option ℕ
letter_value c =
    if c == 34 then Some 34 else
    if c == 92 then Some 92 else
    if c == 47 then Some 47 else
    if c == 98 then Some 8 else
    if c == 102 then Some 12 else
    if c == 110 then Some 10 else
    if c == 114 then Some 13 else
    if c == 116 then Some 9 else None

-- itself, if it is neither quote nor backslash, nor below U+0020
abbrev pub IsUnescaped : List ℕ → ℕ → Type 0
IsUnescaped unit b = (unit ≡ b ∷ []) × (32 ≤ b) × (b ≢ 34) × (b ≢ 92)

-- a backslash and a letter
abbrev pub IsLetterEscape : List ℕ → ℕ → Type 0
IsLetterEscape unit b = (letter : ℕ) × (unit ≡ 92 ∷ letter ∷ []) × (letter_value letter ≡ Some b)

-- `\u` and four hexadecimal digits, here for an ASCII character
abbrev pub IsNumberEscape : List ℕ → ℕ → Type 0
IsNumberEscape unit b =
    (digits : List ℕ) × (unit ≡ 92 ∷ 117 ∷ digits) × AreHexDigits digits × (length digits ≡ 4) × (number_after 0 digits ≡ b) × (b < 128)

abbrev pub IsJsonByte : List ℕ → ℕ → Type 0
IsJsonByte unit b = IsUnescaped unit b ⊎ (IsLetterEscape unit b ⊎ IsNumberEscape unit b)

-- Each text, as it is written between quotes, is read as itself.
abbrev pub JsonTextsAreRead : Type 0
JsonTextsAreRead = (text : List ℕ) → Writes IsJsonByte (flat_map json_byte text) text

-- What stands between quotes is read as one text at most.
abbrev pub JsonTextsAreReadOnce : Type 0
JsonTextsAreReadOnce = (slice text other : List ℕ) → Writes IsJsonByte slice text → Writes IsJsonByte slice other → text ≡ other
