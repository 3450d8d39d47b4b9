-- Reading from left to right: what stands at the front of a list of characters, and what follows it.
use Rattle.std.specs.Prelude.{◌≡◌, ℕ, zero, suc, ◌+◌, ◌-◌, ◌*◌, List, [], ◌∷◌, ◌++◌, length, take, Option, Some, None, option_and_then, nat_lt, ◌==◌, ◌||◌, if◌then◌else◌}
use Rattle.std.specs.Char.{digit_value, encode_utf8}
use Rattle.std.specs.Str.{encode_utf8_all}
use lib.Utf8.{scalar}
use Rattle.rdf_terms.specs.Characters.{short_escape}
use Rattle.rdf_terms.specs.Iri.{is_forbidden}

infixl 10 ◌>>=◌
abbrev pub ◌>>=◌ : {A B : Type 0} → Option A → (A → Option B) → Option B
o >>= f = option_and_then f o

-- ---- places

-- the second place is reached from the first over some characters, or none
abbrev pub LeadsTo : List ℕ → List ℕ → Type 0
LeadsTo from to = (over : List ℕ) × (from ≡ over ++ to)

-- those characters
abbrev pub between : List ℕ → List ℕ → List ℕ
between from to = take (length from - length to) from

-- how many bytes characters take
abbrev pub byte_count : List ℕ → ℕ
byte_count cs = length (encode_utf8_all cs)

-- behind a character that is wanted
unfoldable pub expect : ℕ → List ℕ → Option (List ℕ)
expect wanted [] = None
expect wanted (c ∷ cs) = if c == wanted then Some cs else None

-- ---- escapes

unfoldable pub hex_at : List ℕ → Option (ℕ × List ℕ)
hex_at [] = None
hex_at (c ∷ cs) = if nat_lt (digit_value c) 16 then Some (digit_value c, cs) else None

unfoldable pub hex4_at : List ℕ → Option (ℕ × List ℕ)
hex4_at cs = do
  a ← hex_at cs
  b ← hex_at a.1
  c ← hex_at b.1
  d ← hex_at c.1
  Some (a.0 * 4096 + b.0 * 256 + c.0 * 16 + d.0, d.1)

unfoldable pub scalar_only : ℕ → List ℕ → Option (ℕ × List ℕ)
scalar_only n cs = if scalar n then Some (n, cs) else None

-- UCHAR behind its backslash: u and four digits, or U and eight
unfoldable pub numeric_at : List ℕ → Option (ℕ × List ℕ)
numeric_at [] = None
numeric_at (c ∷ cs) =
    if c == 117 then (do
      n ← hex4_at cs
      scalar_only n.0 n.1)
    else if c == 85 then (do
      high ← hex4_at cs
      low ← hex4_at high.1
      scalar_only (high.0 * 65536 + low.0) low.1)
    else None

-- UCHAR or ECHAR behind its backslash
unfoldable pub escape_at : List ℕ → Option (ℕ × List ℕ)
escape_at [] = None
escape_at (c ∷ cs) =
    if (c == 117) || (c == 85) then numeric_at (c ∷ cs)
    else (do
      meant ← short_escape c
      Some (meant, cs))

-- itself, or an escape
unfoldable pub character_at : List ℕ → Option (ℕ × List ℕ)
character_at [] = None
character_at (c ∷ cs) = if c == 92 then escape_at cs else Some (c, cs)

-- ---- one character of an IRI and of a quoted string

unfoldable pub allowed_only : ℕ → List ℕ → Option (ℕ × List ℕ)
allowed_only n cs = if is_forbidden n then None else Some (n, cs)

unfoldable pub iri_character_at : List ℕ → Option (ℕ × List ℕ)
iri_character_at [] = None
iri_character_at (c ∷ cs) =
    if c == 92 then (do
      n ← numeric_at cs
      allowed_only n.0 n.1)
    else allowed_only c cs

unfoldable pub string_character_at : ℕ → List ℕ → Option (ℕ × List ℕ)
string_character_at quote [] = None
string_character_at quote (c ∷ cs) =
    if c == 92 then escape_at cs
    else if (c == quote) || (c == 10) || (c == 13) then None
    else Some (c, cs)

-- ---- characters up to a last one, and their text

unfoldable pub up_to : (List ℕ → Option (ℕ × List ℕ)) → ℕ → ℕ → List ℕ → Option (List ℕ × List ℕ)
up_to one last zero cs = None
up_to one last (suc n) [] = None
up_to one last (suc n) (c ∷ cs) =
    if c == last then Some ([], cs)
    else (do
      first ← one (c ∷ cs)
      others ← up_to one last n first.1
      Some (encode_utf8 first.0 ++ others.0, others.1))

unfoldable pub iri_body_at : List ℕ → Option (List ℕ × List ℕ)
iri_body_at cs = up_to iri_character_at 62 (length cs) cs

-- IRIREF
unfoldable pub iri_at : List ℕ → Option (List ℕ × List ℕ)
iri_at cs = do
  body ← expect 60 cs
  iri_body_at body

unfoldable pub quoted_body_at : ℕ → List ℕ → Option (List ℕ × List ℕ)
quoted_body_at quote cs = up_to (string_character_at quote) quote (length cs) cs

-- a string between such quotes
unfoldable pub quoted_at : ℕ → List ℕ → Option (List ℕ × List ℕ)
quoted_at quote cs = do
  body ← expect quote cs
  quoted_body_at quote body
