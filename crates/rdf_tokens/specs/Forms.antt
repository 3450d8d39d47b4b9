-- The forms of tokens, as slices of a text (Turtle 1.1, section 6.5; SPARQL 1.1 Query, section 19.8). Characters are code points.
use Rattle.std.specs.Prelude.{◌≡◌, ◌≢◌, ◌<◌, ◌⊎◌, ℕ, suc, true, List, [], ◌∷◌, ◌++◌, length, codes, ◌==◌, ◌||◌}
use Rattle.std.specs.List.{AllByRecursion}
use Rattle.std.specs.Char.{digit_value, is_ascii_digit, is_ascii_alphabetic}
use Rattle.rdf_terms.specs.Characters.{is_pn_chars_base, is_pn_chars}
use Rattle.rdf_terms.specs.Dotted.{IsOne, IsDotted}
use Rattle.rdf_terms.specs.Escapes.{IsNumericEscape, IsShortEscape, Writes}
use Rattle.rdf_terms.specs.Quoted.{IsStringCharacter, IsIriRef}
use Rattle.rdf_terms.specs.Tags.{IsTagName}
use Rattle.rdf_tokens.specs.declared.token.Kind.{Kind}
use Rattle.rdf_tokens.specs.declared.token.Kind.TheVariants.{Iri, Pname, BlankLabel, AtWord, Text, Integer, Decimal, Double, Var, Word, Symbol}
use Rattle.rdf_tokens.specs.Characters.{is_sign, is_exponent_letter, is_word_part, is_name_start, is_variable_part, is_local_escape}

-- ---- strings, and the characters that they stand for

-- STRING_LITERAL_QUOTE, STRING_LITERAL_SINGLE_QUOTE: a quote, characters, the quote
abbrev pub IsShort : ℕ → List ℕ → List ℕ → Type 0
IsShort quote slice cs = (body : List ℕ) × (slice ≡ quote ∷ (body ++ quote ∷ [])) × Writes (IsStringCharacter quote) body cs

-- itself, other than the quote and `\`, or an escape
abbrev pub IsLongCharacter : ℕ → List ℕ → ℕ → Type 0
IsLongCharacter quote unit c = ((unit ≡ c ∷ []) × (c ≢ quote) × (c ≢ 92)) ⊎ (IsNumericEscape unit c ⊎ IsShortEscape unit c)

-- With so many bare quotes just before: at most two stand together, and none at the end.
abbrev pub IsLongBody : ℕ → ℕ → List ℕ → List ℕ → Type 0
IsLongBody quote before body [] = (body ≡ []) × (before ≡ 0)
IsLongBody quote before body (c ∷ cs) =
    (first others : List ℕ) × (body ≡ first ++ others)
    × (((first ≡ quote ∷ []) × (c ≡ quote) × (before < 2) × IsLongBody quote (suc before) others cs)
    ⊎ (IsLongCharacter quote first c × IsLongBody quote 0 others cs))

-- STRING_LITERAL_LONG_QUOTE, STRING_LITERAL_LONG_SINGLE_QUOTE: three quotes, such a body, three quotes
abbrev pub IsLong : ℕ → List ℕ → List ℕ → Type 0
IsLong quote slice cs = (body : List ℕ) × (slice ≡ quote ∷ quote ∷ quote ∷ (body ++ quote ∷ quote ∷ quote ∷ [])) × IsLongBody quote 0 body cs

abbrev pub IsString : ℕ → List ℕ → List ℕ → Type 0
IsString quote slice cs = IsShort quote slice cs ⊎ IsLong quote slice cs

-- String: with `"` or with `'`, for these characters
abbrev pub IsText : List ℕ → List ℕ → Type 0
IsText slice cs = IsString 34 slice cs ⊎ IsString 39 slice cs

-- ---- numbers

-- digits or none
abbrev pub AreDigits : List ℕ → Type 0
AreDigits cs = AllByRecursion (λ c. is_ascii_digit c ≡ true) cs

-- one or more digits
abbrev pub HasDigits : List ℕ → Type 0
HasDigits cs = (0 < length cs) × AreDigits cs

-- `+`, `-` or nothing
abbrev pub IsSign : List ℕ → Type 0
IsSign [] = Unit {0}
IsSign (c ∷ cs) = (is_sign c ≡ true) × (cs ≡ [])

-- EXPONENT: `e` or `E`, perhaps a sign, digits
abbrev pub IsExponent : List ℕ → Type 0
IsExponent slice = (e : ℕ) × (sign digits : List ℕ) × (slice ≡ e ∷ (sign ++ digits)) × (is_exponent_letter e ≡ true) × IsSign sign × HasDigits digits

-- DECIMAL without its sign: digits or none, a dot, digits
abbrev pub IsFraction : List ℕ → Type 0
IsFraction slice = (whole part : List ℕ) × (slice ≡ whole ++ 46 ∷ part) × AreDigits whole × HasDigits part

-- digits, a dot, digits or none; or a dot and digits; or digits alone
abbrev pub IsMantissa : List ℕ → Type 0
IsMantissa slice =
    ((whole part : List ℕ) × (slice ≡ whole ++ 46 ∷ part) × HasDigits whole × AreDigits part)
    ⊎ (((part : List ℕ) × (slice ≡ 46 ∷ part) × HasDigits part)
    ⊎ HasDigits slice)

-- DOUBLE without its sign
abbrev pub IsExponential : List ℕ → Type 0
IsExponential slice = (mantissa exponent : List ℕ) × (slice ≡ mantissa ++ exponent) × IsMantissa mantissa × IsExponent exponent

-- perhaps a sign, and then a number of the form
abbrev pub Signed : (List ℕ → Type 0) → List ℕ → Type 0
Signed Form slice = (sign number : List ℕ) × (slice ≡ sign ++ number) × IsSign sign × Form number

-- ---- names

-- VAR1, VAR2 (SPARQL 1.1 Query, section 19.8): `?` or `$`, and a name
abbrev pub IsVariable : List ℕ → Type 0
IsVariable slice =
    (mark c : ℕ) × (name : List ℕ) × (slice ≡ mark ∷ c ∷ name) × ((mark ≡ 63) ⊎ (mark ≡ 36))
    × (is_name_start c ≡ true) × AllByRecursion (λ d. is_variable_part d ≡ true) name

-- an ASCII letter, then letters, digits, `_`: every keyword of the two grammars is one
abbrev pub IsWord : List ℕ → Type 0
IsWord slice = (c : ℕ) × (others : List ℕ) × (slice ≡ c ∷ others) × (is_ascii_alphabetic c ≡ true) × AllByRecursion (λ d. is_word_part d ≡ true) others

-- one of PN_CHARS
abbrev pub IsNamePart : List ℕ → Type 0
IsNamePart unit = IsOne is_pn_chars unit

-- PLX: `%` and two hexadecimal digits, or a backslash and a character that may follow it
abbrev pub IsPlx : List ℕ → Type 0
IsPlx unit =
    ((c d : ℕ) × (unit ≡ 37 ∷ c ∷ d ∷ []) × (digit_value c < 16) × (digit_value d < 16))
    ⊎ ((c : ℕ) × (unit ≡ 92 ∷ c ∷ []) × (is_local_escape c ≡ true))

-- PN_CHARS_U, `:`, a digit, or PLX
abbrev pub IsLocalFirst : List ℕ → Type 0
IsLocalFirst unit = IsOne (λ c. is_name_start c || (c == 58)) unit ⊎ IsPlx unit

-- PN_CHARS, `:`, or PLX
abbrev pub IsLocalPart : List ℕ → Type 0
IsLocalPart unit = IsOne (λ c. is_pn_chars c || (c == 58)) unit ⊎ IsPlx unit

-- BLANK_NODE_LABEL: `_:`, PN_CHARS_U or a digit, then PN_CHARS or `.`, the last not `.`
abbrev pub IsBlankLabel : List ℕ → Type 0
IsBlankLabel slice = (c : ℕ) × (name : List ℕ) × (units : List (List ℕ)) × (slice ≡ 95 ∷ 58 ∷ c ∷ name) × (is_name_start c ≡ true) × IsDotted IsNamePart name units

-- empty, or PN_PREFIX: PN_CHARS_BASE, then PN_CHARS or `.`, the last not `.`
abbrev pub IsPrefix : List ℕ → Type 0
IsPrefix [] = Unit {0}
IsPrefix (c ∷ name) = (is_pn_chars_base c ≡ true) × ((units : List (List ℕ)) × IsDotted IsNamePart name units)

-- empty, or PN_LOCAL
abbrev pub IsLocal : List ℕ → Type 0
IsLocal slice =
    (slice ≡ []) ⊎ ((first others : List ℕ) × (units : List (List ℕ)) × (slice ≡ first ++ others) × IsLocalFirst first × IsDotted IsLocalPart others units)

-- PNAME_NS, PNAME_LN
abbrev pub IsPname : List ℕ → Type 0
IsPname slice = (prefix name : List ℕ) × (slice ≡ prefix ++ 58 ∷ name) × IsPrefix prefix × IsLocal name

-- LANGTAG, of which `@prefix` and `@base` have the form: `@` and a tag
abbrev pub IsAtWord : List ℕ → Type 0
IsAtWord slice = (name : List ℕ) × (slice ≡ 64 ∷ name) × IsTagName name

-- ---- symbols

abbrev pub IsOneOf : List (List ℕ) → List ℕ → Type 0
IsOneOf [] slice = ⊥
IsOneOf (s ∷ others) slice = (slice ≡ s) ⊎ IsOneOf others slice

-- the punctuation and the operators of the two grammars
abbrev pub symbols : List (List ℕ)
symbols =
    codes "{" ∷ codes "}" ∷ codes "(" ∷ codes ")" ∷ codes "[" ∷ codes "]" ∷ codes "." ∷ codes ";" ∷ codes ","
    ∷ codes "^^" ∷ codes "=" ∷ codes "!=" ∷ codes "<" ∷ codes ">" ∷ codes "<=" ∷ codes ">=" ∷ codes "&&" ∷ codes "||"
    ∷ codes "!" ∷ codes "+" ∷ codes "-" ∷ codes "*" ∷ codes "/" ∷ []

-- ---- all

-- The slice has the form of that kind.
abbrev pub HasForm : Kind → List ℕ → Type 0
HasForm Iri slice = (text : List ℕ) × IsIriRef slice text
HasForm Pname slice = IsPname slice
HasForm BlankLabel slice = IsBlankLabel slice
HasForm AtWord slice = IsAtWord slice
HasForm Text slice = (cs : List ℕ) × IsText slice cs
HasForm Integer slice = Signed HasDigits slice
HasForm Decimal slice = Signed IsFraction slice
HasForm Double slice = Signed IsExponential slice
HasForm Var slice = IsVariable slice
HasForm Word slice = IsWord slice
HasForm Symbol slice = IsOneOf symbols slice
