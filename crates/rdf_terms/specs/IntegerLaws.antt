-- What holds of the text that a number is written as (XML Schema 1.1 Part 2, section 3.4.13.2, the canonical form).
use Rattle.std.specs.Prelude.{◌≡◌, ℕ, Bool, ◌&&◌, ◌||◌, ◌==◌, not, nat_eq, List, codes, slice_index, IsTrue, Some, ℤ}
use Rattle.std.specs.Cmp.Lexicographic.{pointwise}
use Rattle.std.specs.Str.Parse.{without_leading_sign}
use Rattle.rdf_terms.specs.Integers.{decimal, fits_128_bits, integer_literal, integer_of, is_integer_form, written_integer}

-- an optional sign and digits, with no plus sign, and no 0 as first digit unless the whole text is `0`
unfoldable pub is_canonical : List ℕ → Bool
is_canonical text =
    is_integer_form text && not (slice_index text 0 == 43)
    && (not (slice_index (without_leading_sign text) 0 == 48) || pointwise nat_eq text (codes "0"))

-- the text of a number writes that number
abbrev pub DecimalsAreRead : Type 0
DecimalsAreRead = (n : ℤ) → IsTrue (fits_128_bits n) → written_integer (decimal n) ≡ n

abbrev pub DecimalsAreCanonical : Type 0
DecimalsAreCanonical = (n : ℤ) → IsTrue (fits_128_bits n) → IsTrue (is_canonical (decimal n))

-- no other canonical text writes it
abbrev pub CanonicalTextsAreDecimals : Type 0
CanonicalTextsAreDecimals = (text : List ℕ) → IsTrue (is_canonical text) → IsTrue (fits_128_bits (written_integer text)) → decimal (written_integer text) ≡ text

-- the value of a number's own literal is the number
abbrev pub IntegersComeBack : Type 0
IntegersComeBack = (n : ℤ) → IsTrue (fits_128_bits n) → integer_of (integer_literal n) ≡ Some n
