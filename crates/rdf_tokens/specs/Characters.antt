-- The classes of characters that Turtle and SPARQL have of their own, by their code points.
use Rattle.std.specs.Prelude.{ℕ, Bool, ◌==◌, ◌||◌}
use Rattle.std.specs.Int.{is_in_range}
use Rattle.std.specs.Char.{is_ascii_alphanumeric}
use Rattle.rdf_terms.specs.Characters.{is_pn_chars_u}

-- WS (Turtle 1.1, section 6.5): space, tab, CR, LF
abbrev pub is_white : ℕ → Bool
is_white c = (c == 32) || (c == 9) || (c == 13) || (c == 10)

-- `+`, `-`
abbrev pub is_sign : ℕ → Bool
is_sign c = (c == 43) || (c == 45)

-- `e`, `E`
abbrev pub is_exponent_letter : ℕ → Bool
is_exponent_letter c = (c == 101) || (c == 69)

-- an ASCII letter or digit, or `_`
abbrev pub is_word_part : ℕ → Bool
is_word_part c = is_ascii_alphanumeric c || (c == 95)

-- PN_CHARS_U or a digit (Turtle 1.1, section 6.5: the first of BLANK_NODE_LABEL and, beside `:` and PLX, of PN_LOCAL)
unfoldable pub is_name_start : ℕ → Bool
is_name_start c = is_pn_chars_u c || is_in_range 48 57 c

-- what may follow in VARNAME (SPARQL 1.1 Query, section 19.8): PN_CHARS without `-`
unfoldable pub is_variable_part : ℕ → Bool
is_variable_part c = is_name_start c || (c == 0xB7) || is_in_range 0x300 0x36F c || is_in_range 0x203F 0x2040 c

-- what a backslash may stand before in PN_LOCAL_ESC (Turtle 1.1, section 6.5):  _ ~ . - ! $ & ' ( ) * + , ; = / ? # @ %
unfoldable pub is_local_escape : ℕ → Bool
is_local_escape c =
    (c == 95) || (c == 126) || (c == 46) || (c == 45) || (c == 33) || (c == 36) || (c == 38) || (c == 39) || (c == 40) || (c == 41)
    || (c == 42) || (c == 43) || (c == 44) || (c == 59) || (c == 61) || (c == 47) || (c == 63) || (c == 35) || (c == 64) || (c == 37)
