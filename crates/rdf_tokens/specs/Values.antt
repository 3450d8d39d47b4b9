-- What slices of a text stand for (Turtle 1.1, sections 6.3 to 6.5). Slices are characters, and values are the bytes of their UTF-8.
use Rattle.std.specs.Prelude.{◌≡◌, ◌⊎◌, ℕ, zero, suc, ◌==◌, not, if◌then◌else◌, List, [], ◌∷◌, length, filter, flat_map, Option, Some, None, option_map, unwrap_or}
use Rattle.std.specs.Option.{option_or}
use Rattle.std.specs.List.{AllByRecursion, concat}
use Rattle.std.specs.Str.{encode_utf8_all}
use Rattle.rdf_terms.specs.Cuts.{before, after}
use Rattle.rdf_terms.specs.Reading.{◌>>=◌, expect, character_at, iri_at}
use Rattle.rdf_tokens.specs.Forms.{IsLocalPart}

-- ---- IRIs

-- the reference that the IRIREF at the front writes, each UCHAR read; nothing where none stands there
unfoldable pub iri_value : List ℕ → List ℕ
iri_value slice = unwrap_or (option_map (λ read. read.0) (iri_at slice)) []

-- ---- strings

-- what stands before the mark at the end
unfoldable pub before_end : ℕ → List ℕ → Option (List ℕ)
before_end mark [] = None
before_end mark (c ∷ []) = if c == mark then Some [] else None
before_end mark (c ∷ d ∷ cs) = option_map (λ front. c ∷ front) (before_end mark (d ∷ cs))

-- what stands between a mark at the front and one at the end
unfoldable pub enclosed : ℕ → ℕ → List ℕ → Option (List ℕ)
enclosed first last cs = do
  body ← expect first cs
  before_end last body

-- what stands between three such quotes and three more
unfoldable pub enclosed_thrice : ℕ → List ℕ → Option (List ℕ)
enclosed_thrice quote cs = do
  once ← enclosed quote quote cs
  twice ← enclosed quote quote once
  enclosed quote quote twice

-- what stands between the quotes of a string, a long one or else a short one
unfoldable pub quoted_body : ℕ → List ℕ → Option (List ℕ)
quoted_body quote cs = option_or (enclosed_thrice quote cs) (enclosed quote quote cs)

unfoldable pub text_body : List ℕ → Option (List ℕ)
text_body slice = option_or (quoted_body 34 slice) (quoted_body 39 slice)

-- the characters that a text of at most so many characters writes, each itself or an escape (Turtle 1.1, section 6.4)
unfoldable pub written_within : ℕ → List ℕ → Option (List ℕ)
written_within zero [] = Some []
written_within zero (c ∷ cs) = None
written_within (suc n) [] = Some []
written_within (suc n) (c ∷ cs) = do
  next ← character_at (c ∷ cs)
  others ← written_within n next.1
  Some (next.0 ∷ others)

unfoldable pub unescaped : List ℕ → List ℕ
unescaped cs = unwrap_or (written_within (length cs) cs) []

-- what a string stands for; nothing where no quotes enclose the slice, or what they enclose is no text with escapes
unfoldable pub text_value : List ℕ → List ℕ
text_value slice = encode_utf8_all (unescaped (unwrap_or (text_body slice) []))

-- ---- prefixed names

-- the prefix: what stands before the first colon
unfoldable pub prefix_part : List ℕ → List ℕ
prefix_part slice = before 58 slice

-- the local part: what stands behind the first colon
unfoldable pub local_part : List ℕ → List ℕ
local_part slice = unwrap_or (after 58 slice) []

-- A local part without the backslashes of its escapes. An escape is never of a backslash (Turtle 1.1, section 6.5: PN_LOCAL_ESC).
unfoldable pub local_value : List ℕ → List ℕ
local_value part = encode_utf8_all (filter (λ c. not (c == 92)) part)

-- a unit of a local part: a dot, one of PN_CHARS, `:` or PLX
abbrev pub IsLocalUnit : List ℕ → Type 0
IsLocalUnit unit = (unit ≡ 46 ∷ []) ⊎ IsLocalPart unit

-- the characters that a unit stands for: those behind a backslash, or else its own, those of `%hh` too (Turtle 1.1, section 6.4)
abbrev pub unit_value : List ℕ → List ℕ
unit_value [] = []
unit_value (c ∷ cs) = if c == 92 then cs else c ∷ cs

-- The local part stands for these characters, unit by unit.
abbrev pub LocalMeans : List ℕ → List ℕ → Type 0
LocalMeans part cs = (units : List (List ℕ)) × (part ≡ concat units) × AllByRecursion IsLocalUnit units × (cs ≡ flat_map unit_value units)

-- ---- tags

-- what stands behind the `@`
unfoldable pub tag_value : List ℕ → List ℕ
tag_value slice = encode_utf8_all (unwrap_or (expect 64 slice) [])
