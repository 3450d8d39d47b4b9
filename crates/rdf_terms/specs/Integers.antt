-- The whole numbers that literals of datatype xsd:integer stand for, and the text that each is written as (XML Schema 1.1
-- Part 2, section 3.4.13).
use Rattle.std.specs.Prelude.{ℕ, ◌^◌, Bool, ◌&&◌, if◌then◌else◌, nat_eq, nat_lt, List, length, Option, None, Some, ℤ, pos, neg_ℤ, int_le, int_lt}
use Rattle.std.specs.Cmp.Lexicographic.{pointwise}
use Rattle.std.specs.Fmt.{signed_decimal}
use Rattle.std.specs.Str.{all_ascii_digits}
use Rattle.std.specs.Str.Parse.{signed_digits_value, without_leading_sign}
use Rattle.rdf_terms.specs.Literal.{LiteralParts}
use Rattle.rdf_terms.specs.Vocabulary.{xsd_integer}

-- one or more digits, with `+`, `-` or nothing in front
unfoldable pub is_integer_form : List ℕ → Bool
is_integer_form text = nat_lt 0 (length (without_leading_sign text)) && all_ascii_digits (without_leading_sign text)

-- the number that a sign and digits write in base ten
unfoldable pub written_integer : List ℕ → ℤ
written_integer text = signed_digits_value 10 text

-- from -2^127 to 2^127 - 1
unfoldable pub fits_128_bits : ℤ → Bool
fits_128_bits n = int_le (neg_ℤ (pos (2 ^ 127))) n && int_lt n (pos (2 ^ 127))

-- the value of an xsd:integer whose lexical form is an optional sign and digits, where it is a number of 128 bits
unfoldable pub integer_of : LiteralParts → Option ℤ
integer_of l =
    if pointwise nat_eq l.datatype xsd_integer && (is_integer_form l.lexical && fits_128_bits (written_integer l.lexical))
    then Some (written_integer l.lexical) else None

-- a number's digits in base ten, behind a `-` where it is below zero
unfoldable pub decimal : ℤ → List ℕ
decimal n = signed_decimal n

-- the xsd:integer that is the number's own
abbrev pub integer_literal : ℤ → LiteralParts
integer_literal n = record { lexical = decimal n; datatype = xsd_integer; tag = None }
