-- The digits of a number, as they are written.
use Rattle.std.proofs.Common.{◌≡◌, refl, ap, ℕ, ◌+◌, ◌<◌, ◌%◌, ◌^◌, arith, Bool, true, false, ◌==◌, ◌||◌, List, [], ◌∷◌, ◌++◌, decimal}
use Rattle.std.specs.Int.{is_in_range}
use Rattle.std.specs.Str.{IsAscii}
use Rattle.std.proofs.lemmas.Bool.Decides.{nat_tests}
use Rattle.std.proofs.lemmas.Fmt.{decimal_by_steps}
use Rattle.rdf_terms.specs.Characters.{is_pn_chars_u, is_pn_chars}
use Rattle.rdf_terms.proofs.SkipLemmas.{AllPass}
use Rattle.rdf_terms.proofs.TagForms.{AllLow, ascii_from}

abbrev pub is_digit : ℕ → Bool
is_digit c = is_in_range 48 57 c

pass-append : (p : ℕ → Bool) (xs ys : List ℕ) → AllPass p xs → AllPass p ys → AllPass p (xs ++ ys)
pass-append p [] ys a b = b
pass-append p (x ∷ xs) ys a b = (a.0, pass-append p xs ys a.1 b)

digit_below : (n : ℕ) → n < 10 → is_digit (48 + n) ≡ true
digit_below n h = grind (arith, nat_tests)

pub decimal_digits : (n : ℕ) → n < 2 ^ 64 → AllPass is_digit (decimal n)
decimal_digits = decimal_by_steps (λ n ds. AllPass is_digit ds) (λ n h. (digit_below n h, tt))
    (λ n ds h front. pass-append is_digit ds ((48 + n % 10) ∷ []) front (digit_below (n % 10) (omega arith), tt))

digit_low : (c : ℕ) → is_digit c ≡ true → c < 128
digit_low c h = grind (arith, nat_tests)

pub digits_low : (cs : List ℕ) → AllPass is_digit cs → AllLow cs
digits_low [] h = tt
digits_low (c ∷ cs) h = (digit_low c h.0, digits_low cs h.1)

-- ---- the label of a blank node, by a number of 64 bits

pub label_low : (n : ℕ) → n < 2 ^ 64 → AllLow (98 ∷ decimal n)
label_low n h = (omega arith, digits_low (decimal n) (decimal_digits n h))

pub blank_ascii : (n : ℕ) → n < 2 ^ 64 → IsAscii (95 ∷ 58 ∷ 98 ∷ decimal n)
blank_ascii n h = ascii_from (95 ∷ 58 ∷ 98 ∷ decimal n) (omega arith, (omega arith, label_low n h))

third : (a b c d e f : Bool) → c ≡ true → (a || b || c || d || e || f) ≡ true
third true b c d e f h = refl
third false true c d e f h = refl
third false false c d e f h = ap (λ x. false || false || x || d || e || f) h

pub digit_part : (c : ℕ) → is_digit c ≡ true → is_pn_chars c ≡ true
unfolding is_pn_chars
digit_part c h = third (is_pn_chars_u c) (c == 45) (is_in_range 48 57 c) (c == 0xB7) (is_in_range 0x300 0x36F c) (is_in_range 0x203F 0x2040 c) h
