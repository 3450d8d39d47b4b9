-- Reading tokens from left to right: what stands at the front of a list of characters, and what follows it.
use Rattle.std.specs.Prelude.{◌≡◌, ◌<◌, ◌++◌, ℕ, zero, suc, length, Bool, true, false, List, [], ◌∷◌, Option, Some, None, option_map, ◌==◌, ◌||◌, not, if◌then◌else◌}
use Rattle.std.specs.Char.{is_ascii_digit, is_ascii_alphabetic}
use Rattle.rdf_tokens.specs.declared.token.Kind.{Kind}
use Rattle.rdf_tokens.specs.declared.token.Kind.TheVariants.{Iri, Pname, BlankLabel, AtWord, Text, Integer, Decimal, Double, Var, Word, Symbol}
use Rattle.rdf_terms.specs.Characters.{is_pn_chars_base, is_pn_chars}
use Rattle.rdf_terms.specs.LineEnds.{is_line_end}
use Rattle.rdf_terms.specs.Reading.{◌>>=◌, byte_count, expect, hex_at, character_at, iri_at, quoted_at}
use Rattle.rdf_terms.specs.Dotted.{dotted_at}
use Rattle.rdf_terms.specs.Skips.{some_of, one_of}
use Rattle.rdf_terms.specs.Tags.{tag_end_at}
use Rattle.rdf_tokens.specs.Characters.{is_white, is_sign, is_exponent_letter, is_word_part, is_name_start, is_variable_part, is_local_escape}

abbrev pub or_else : {A : Type 0} → Option A → Option A → Option A
or_else None other = other
or_else (Some x) other = Some x

abbrev pub or_just : {A : Type 0} → Option A → A → A
or_just None other = other
or_just (Some x) other = x

abbrev pub as_kind : Kind → Option (List ℕ) → Option (Kind × List ℕ)
as_kind kind None = None
as_kind kind (Some rest) = Some (kind, rest)

-- ---- gaps

-- within a comment or not, behind one more character of a gap
unfoldable pub gap_step : Bool → ℕ → Option Bool
gap_step in_comment c =
    if in_comment then Some (not (is_line_end c))
    else if c == 35 then Some true
    else if is_white c then Some false
    else None

unfoldable pub skip_gap : Bool → List ℕ → List ℕ
skip_gap in_comment [] = []
skip_gap in_comment (c ∷ cs) = elim (gap_step in_comment c) [ None ↦ c ∷ cs | Some next ↦ skip_gap next cs ]

-- ---- IRIs and strings

-- behind an IRIREF
abbrev pub iri_end_at : List ℕ → Option (List ℕ)
iri_end_at cs = option_map (λ read. read.1) (iri_at cs)

-- behind a string with single quotes at its ends
abbrev pub quoted_end_at : ℕ → List ℕ → Option (List ℕ)
quoted_end_at quote cs = option_map (λ read. read.1) (quoted_at quote cs)

unfoldable pub two_at : ℕ → List ℕ → Option (List ℕ)
two_at quote cs = do
  rest ← expect quote cs
  expect quote rest

unfoldable pub three_at : ℕ → List ℕ → Option (List ℕ)
three_at quote cs = do
  rest ← expect quote cs
  two_at quote rest

-- behind the first three quotes: what follows the next three
unfoldable pub long_up : ℕ → ℕ → List ℕ → Option (List ℕ)
long_up quote zero cs = None
long_up quote (suc n) cs = or_else (three_at quote cs) (do
  first ← character_at cs
  long_up quote n first.1)

unfoldable pub long_body_at : ℕ → List ℕ → Option (List ℕ)
long_body_at quote cs = long_up quote (length cs) cs

unfoldable pub long_at : ℕ → List ℕ → Option (List ℕ)
long_at quote cs = do
  body ← three_at quote cs
  long_body_at quote body

-- a long string, or a short one
unfoldable pub text_at : ℕ → List ℕ → Option (List ℕ)
text_at quote cs = or_else (long_at quote cs) (quoted_end_at quote cs)

-- ---- numbers

unfoldable pub digits_at : List ℕ → Option (List ℕ)
digits_at cs = some_of is_ascii_digit is_ascii_digit cs

unfoldable pub skip_sign : List ℕ → List ℕ
skip_sign [] = []
skip_sign (c ∷ cs) = if is_sign c then cs else c ∷ cs

unfoldable pub exponent_at : List ℕ → Option (List ℕ)
exponent_at [] = None
exponent_at (c ∷ cs) = if is_exponent_letter c then digits_at (skip_sign cs) else None

unfoldable pub with_exponent : Kind → List ℕ → Kind × List ℕ
with_exponent kind cs = or_just (as_kind Double (exponent_at cs)) (kind, cs)

unfoldable pub fraction_at : List ℕ → Option (Kind × List ℕ)
fraction_at cs = do
  part ← expect 46 cs
  rest ← digits_at part
  Some (with_exponent Decimal rest)

unfoldable pub dot_exponent_at : List ℕ → Option (List ℕ)
dot_exponent_at cs = do
  part ← expect 46 cs
  exponent_at part

-- behind one or more digits
unfoldable pub whole_at : List ℕ → Kind × List ℕ
whole_at cs = or_just (or_else (fraction_at cs) (as_kind Double (dot_exponent_at cs))) (with_exponent Integer cs)

unfoldable pub unsigned_at : List ℕ → Option (Kind × List ℕ)
unsigned_at cs = or_else (option_map whole_at (digits_at cs)) (fraction_at cs)

unfoldable pub number_at : List ℕ → Option (Kind × List ℕ)
number_at cs = unsigned_at (skip_sign cs)

-- ---- symbols

unfoldable pub symbol_at : List ℕ → Option (List ℕ)
symbol_at [] = None
symbol_at (c ∷ cs) =
    if (c == 94) || (c == 38) || (c == 124) then expect c cs
    else if (c == 33) || (c == 60) || (c == 62) then Some (or_just (expect 61 cs) cs)
    else if (c == 123) || (c == 125) || (c == 40) || (c == 41) || (c == 91) || (c == 93) || (c == 46) || (c == 59) || (c == 44)
    || (c == 61) || (c == 43) || (c == 45) || (c == 42) || (c == 47) then Some cs
    else None

-- ---- names

unfoldable pub word_at : List ℕ → Option (List ℕ)
word_at cs = some_of is_ascii_alphabetic is_word_part cs

-- behind the mark
unfoldable pub variable_at : List ℕ → Option (List ℕ)
variable_at cs = some_of is_name_start is_variable_part cs

-- ---- dotted names

abbrev pub name_part_at : List ℕ → Option (List ℕ)
name_part_at cs = one_of is_pn_chars cs

abbrev pub local_escape_at : List ℕ → Option (List ℕ)
local_escape_at cs = one_of is_local_escape cs

unfoldable pub plx_at : List ℕ → Option (List ℕ)
plx_at [] = None
plx_at (c ∷ cs) =
    if c == 37 then (do
      first ← hex_at cs
      second ← hex_at first.1
      Some second.1)
    else if c == 92 then local_escape_at cs
    else None

unfoldable pub local_part_at : List ℕ → Option (List ℕ)
local_part_at [] = None
local_part_at (c ∷ cs) = if is_pn_chars c || (c == 58) then Some cs else plx_at (c ∷ cs)

unfoldable pub local_first_at : List ℕ → Option (List ℕ)
local_first_at [] = None
local_first_at (c ∷ cs) = if is_name_start c || (c == 58) then Some cs else plx_at (c ∷ cs)

unfoldable pub local_at : List ℕ → List ℕ
local_at cs = or_just (option_map (dotted_at local_part_at) (local_first_at cs)) cs

unfoldable pub prefix_at : List ℕ → List ℕ
prefix_at [] = []
prefix_at (c ∷ cs) = if is_pn_chars_base c then dotted_at name_part_at cs else c ∷ cs

unfoldable pub pname_at : List ℕ → Option (List ℕ)
pname_at cs = option_map local_at (expect 58 (prefix_at cs))

unfoldable pub label_at : List ℕ → Option (List ℕ)
label_at [] = None
label_at (c ∷ cs) = if is_name_start c then Some (dotted_at name_part_at cs) else None

-- behind `_`
unfoldable pub blank_at : List ℕ → Option (List ℕ)
blank_at cs = do
  name ← expect 58 cs
  label_at name

-- no prefixed name begins at a place that has more than so many bytes behind it
unfoldable pub NoPnameBefore : List ℕ → ℕ → Type 0
NoPnameBefore cs left = (before later : List ℕ) → cs ≡ before ++ later → left < byte_count later → pname_at later ≡ None

-- ---- all

unfoldable pub number_or_symbol_at : List ℕ → Option (Kind × List ℕ)
number_or_symbol_at cs = or_else (number_at cs) (as_kind Symbol (symbol_at cs))

unfoldable pub token_at : List ℕ → Option (Kind × List ℕ)
token_at [] = None
token_at (c ∷ cs) =
    if c == 60 then or_else (as_kind Iri (iri_end_at (c ∷ cs))) (number_or_symbol_at (c ∷ cs))
    else if (c == 34) || (c == 39) then as_kind Text (text_at c (c ∷ cs))
    else if (c == 63) || (c == 36) then as_kind Var (variable_at cs)
    else if c == 64 then as_kind AtWord (tag_end_at cs)
    else if c == 95 then as_kind BlankLabel (blank_at cs)
    else if is_pn_chars_base c || (c == 58) then or_else (as_kind Pname (pname_at (c ∷ cs))) (as_kind Word (word_at (c ∷ cs)))
    else number_or_symbol_at (c ∷ cs)
