-- What `parse` reads is the number that a text writes, and `decimal` writes each number's canonical text.
use Rattle.std.proofs.Common.{◌≡◌, ◌<◌, ◌≤◌, ◌+◌, ◌*◌, ◌/◌, ◌%◌, ◌^◌, ℕ, zero, suc, Bool, true, false, cond, ◌&&◌, ◌==◌, nat_eq, nat_lt, List, [], ◌∷◌, ◌++◌, length, drop, get_or, refl, sym, ap, subst, inl, inr, ◌∙◌, arith, append_assoc, Result, Ok, Err, Option, Some, None, of_z, to_z}
use Rattle.std.proofs.Math.IntN.{ℤ, pos, negsuc, neg_ℤ}
use Rattle.std.proofs.Math.ListN.{drop_of_length-le}
use Rattle.std.proofs.Math.Nat.{pow-le-pow_right}
use Rattle.std.specs.Prelude.{◌≢◌, ◌⊎◌, codes, FitsSigned}
use Rattle.std.specs.Bool.{Decides}
use Rattle.std.specs.Char.{digit_value}
use Rattle.std.specs.Cmp.Lexicographic.{pointwise}
use Rattle.std.specs.Fmt.{signed_decimal}
use Rattle.std.specs.Fmt as fmt
use Rattle.std.specs.Int.{w128}
use Rattle.std.specs.Result.{result_ok}
use Rattle.std.specs.Str.{all_ascii_digits}
use Rattle.std.specs.Str.Parse.{AllDigits, IsNumeral, ParsesSigned, digits_value, digits_value_after, signed_digits_value, without_leading_sign}
use Rattle.std.proofs.lemmas.Bool.{and_from, and_left, and_parts, cases_lt, eqb-false, not_from_false, cases_Bool, cond-true, cond-false, eqb-true, false_from_ne_true, ne_eqb, or_right, or_left, not-true, or_cases}
use Rattle.std.proofs.lemmas.Bool.Decides.{Decides-and, Decides-ltb, nat_tests}
use Rattle.std.proofs.lemmas.Fmt.{decimal_is_IsNumeral_wide, decimal_by_steps_wide, decimal_step_wide, decimal_digit}
use Rattle.std.proofs.lemmas.Int.{to_z-of_z}
use Rattle.std.proofs.lemmas.List.{append-nil}
use Rattle.std.proofs.lemmas.Str.{digit_value_digit}
use Rattle.std.proofs.lemmas.Slice.Eq.{bytes_eq-Decides}
use Rattle.std.proofs.lemmas.Str.Parse.{IsNumeralModel, numerals_by_value, tells_all_ascii_digits, digit_from_value}
use Rattle.rdf_terms.specs.Integers.{is_integer_form, written_integer, fits_128_bits, integer_of, decimal, integer_literal}
use Rattle.rdf_terms.specs.IntegerLaws.{is_canonical}
use Rattle.rdf_terms.specs.Literal.{LiteralParts}
use Rattle.rdf_terms.specs.Vocabulary.{xsd_integer}

-- ---- the tests

own : IsNumeralModel (λ ds. all_ascii_digits ds ≡ true) (digits_value 10)
own = numerals_by_value _ tells_all_ascii_digits

pub form_decides : (text : List ℕ) → Decides (is_integer_form text) (IsNumeral 10 (without_leading_sign text))
unfolding is_integer_form
form_decides text =
    let ds = without_leading_sign text in
    Decides-and (nat_lt 0 (length ds)) (all_ascii_digits ds) (Decides-ltb 0 (length ds)) (own.to ds, own.from ds)

pub fits_decides : (n : ℤ) → Decides (fits_128_bits n) (FitsSigned w128 n)
unfolding fits_128_bits
fits_decides (pos n) = (λ h. record { sfits = grind (arith, nat_tests) }, λ h. grind (arith, nat_tests, h.sfits))
fits_decides (negsuc n) = (λ h. record { sfits = grind (arith, nat_tests) }, λ h. grind (arith, nat_tests, h.sfits))

-- the form of an integer, of 128 bits
abbrev pub is_value : List ℕ → Bool
is_value text = is_integer_form text && fits_128_bits (written_integer text)

value_decides : (text : List ℕ) → Decides (is_value text) (IsNumeral 10 (without_leading_sign text) × FitsSigned w128 (signed_digits_value 10 text))
unfolding written_integer
value_decides text = Decides-and _ _ (form_decides text) (fits_decides (signed_digits_value 10 text))

pub parsed : {E : Type 0} (text : List ℕ) (r : Result ℤ E) → ParsesSigned w128 10 text r → result_ok r ≡ cond (is_value text) (Some (written_integer text)) None
unfolding written_integer
parsed text (Ok x) h = ap Some h.1 ∙ sym (cond-true _ _ _ ((value_decides text).1 h.0))
parsed text (Err e) h = sym (cond-false _ _ _ (false_from_ne_true _ (λ is. h ((value_decides text).0 is))))

-- ---- the value of a literal

pub other_datatype : (l : LiteralParts) (datatype : List ℕ) (same : Bool) → datatype ≡ l.datatype → same ≡ pointwise nat_eq datatype xsd_integer → same ≡ false → None ≡ integer_of l
unfolding integer_of
other_datatype l datatype same d is differs = sym (cond-false _ _ _ (and_left _ _ (sym (is ∙ ap (λ t. pointwise nat_eq t xsd_integer) d) ∙ differs)))

-- a value of a text, where the datatype is that of integers
integer_is : (l : LiteralParts) (datatype text : List ℕ) (same : Bool) (value : Option ℤ) → value ≡ cond (is_value l.lexical) (Some (written_integer l.lexical)) None → datatype ≡ l.datatype
    → same ≡ pointwise nat_eq datatype xsd_integer → same ≡ true → value ≡ integer_of l
unfolding integer_of
integer_is l datatype text same value v d is agrees =
    v ∙ ap (λ b. cond (b && is_value l.lexical) (Some (written_integer l.lexical)) None) (sym (sym (is ∙ ap (λ t. pointwise nat_eq t xsd_integer) d) ∙ agrees))

pub integer_parsed : {E : Type 0} (l : LiteralParts) (datatype text : List ℕ) (same : Bool) (r : Result ℤ E) (value : Option ℤ) → value ≡ result_ok r → ParsesSigned w128 10 text r → datatype ≡ l.datatype → text ≡ l.lexical → same ≡ pointwise nat_eq datatype xsd_integer → same ≡ true
    → value ≡ integer_of l
integer_parsed l datatype text same r value v h d e is agrees =
    integer_is l datatype text same value (v ∙ parsed l.lexical r (subst (λ t. ParsesSigned w128 10 t r) e h)) d is agrees

-- ---- the canonical text of a number below 10^64, and that it is one

-- no zero stands first, but in `0`
no_zero_first : (n : ℕ) → n < 10 ^ 64 → 0 < n → get_or (fmt.decimal n) 0 0 ≢ 48
no_zero_first n small some = (no_zero n small).1 some
  where
    grow : (ds : List ℕ) (c : ℕ) → 0 < length ds → 0 < length (ds ++ (c ∷ []))
    grow [] c h = omega arith
    grow (d ∷ ds) c h = omega arith

    front : (ds : List ℕ) (c : ℕ) → 0 < length ds → get_or (ds ++ (c ∷ [])) 0 0 ≡ get_or ds 0 0
    front [] c h = absurd (omega arith)
    front (d ∷ ds) c h = refl

    no_zero : (m : ℕ) → m < 10 ^ 64 → (0 < length (fmt.decimal m)) × (0 < m → get_or (fmt.decimal m) 0 0 ≢ 48)
    no_zero = decimal_by_steps_wide (λ m ds. (0 < length ds) × (0 < m → get_or ds 0 0 ≢ 48))
        (λ m l. (omega arith, λ p e. omega arith))
        (λ m ds l h. (grow ds _ h.0, λ p e. h.1 (omega arith) (sym (front ds _ h.0) ∙ e)))

le_value_after : (n : ℕ) (ds : List ℕ) → n ≤ digits_value_after 10 n ds
le_value_after n [] = omega arith
le_value_after n (c ∷ cs) = omega (arith, le_value_after (n * 10 + digit_value c) cs)

decimal_value_after : (n : ℕ) (ds : List ℕ) → 0 < n → AllDigits 10 ds → digits_value_after 10 n ds < 10 ^ 64 → fmt.decimal (digits_value_after 10 n ds) ≡ fmt.decimal n ++ ds
decimal_value_after n [] some d small = sym (append-nil (fmt.decimal n))
decimal_value_after n (c ∷ cs) some d small =
    let m : ℕ = n * 10 + digit_value c in
    let digit = digit_from_value c d.0 in
    let k = digit_value_digit c digit in
    let front : m / 10 ≡ n = omega (arith, d.0) in
    let end : 48 + m % 10 ≡ c = omega (arith, d.0) in
    decimal_value_after m cs (omega arith) d.1 small
    ∙ ap (λ x. x ++ cs) (decimal_step_wide m (omega arith) (omega (arith, le_value_after m cs)) ∙ (λ i. fmt.decimal (front i) ++ (end i ∷ [])))
    ∙ append_assoc (fmt.decimal n) (c ∷ []) cs

value_digits : (ds : List ℕ) → IsNumeral 10 ds → (get_or ds 0 0 ≡ 48 → length ds ≡ 1) → digits_value 10 ds < 10 ^ 64 → fmt.decimal (digits_value 10 ds) ≡ ds
value_digits [] d lead small = absurd (omega (arith, d.0))
value_digits (c ∷ []) d lead small =
    let k = digit_value_digit c (digit_from_value c d.1.0) in
    decimal_digit (0 * 10 + digit_value c) (omega (arith, d.1.0)) ∙ ap (λ x. x ∷ []) (omega arith)
value_digits (c ∷ e ∷ cs) d lead small =
    let k = digit_value_digit c (digit_from_value c d.1.0) in
    let no : c ≡ 48 → ⊥ = λ z. omega (arith, lead z) in
    let is : 48 + (0 * 10 + digit_value c) ≡ c = omega arith in
    decimal_value_after (0 * 10 + digit_value c) (e ∷ cs) (omega arith) d.1.1 small
    ∙ ap (λ x. x ++ (e ∷ cs)) (decimal_digit (0 * 10 + digit_value c) (omega (arith, d.1.0)) ∙ ap (λ x. x ∷ []) is)

-- ---- signs

-- digits with no sign are their own digits
unsigned : (c : ℕ) (cs : List ℕ) → (c == 45) ≡ false → (c == 43) ≡ false → without_leading_sign (c ∷ cs) ≡ c ∷ cs
unsigned c cs minus plus = ap (λ b. cond b cs (drop (cond (c == 43) 1 0) (c ∷ cs))) minus ∙ ap (λ b. drop (cond b 1 0) (c ∷ cs)) plus

unsigned_value : (c : ℕ) (cs : List ℕ) → (c == 45) ≡ false → (c == 43) ≡ false → signed_digits_value 10 (c ∷ cs) ≡ pos (digits_value 10 (c ∷ cs))
unsigned_value c cs minus plus =
    ap (λ b. cond b (neg_ℤ (pos (digits_value 10 (without_leading_sign (c ∷ cs))))) (pos (digits_value 10 (without_leading_sign (c ∷ cs))))) minus
    ∙ ap (λ t. pos (digits_value 10 t)) (unsigned c cs minus plus)

no_sign : (c s : ℕ) → digit_value c < 10 → s < 48 → (c == s) ≡ false
no_sign c s d low = let k = digit_from_value c d in ne_eqb c s (λ e. omega (arith, k.0, k.1))

record IsPlain (ds : List ℕ) : Type 0 where
  digits : without_leading_sign ds ≡ ds
  value : signed_digits_value 10 ds ≡ pos (digits_value 10 ds)
  no_plus : get_or ds 0 0 ≢ 43

plain : (ds : List ℕ) → IsNumeral 10 ds → IsPlain ds
plain [] d = absurd (omega (arith, d.0))
plain (c ∷ cs) d =
    let minus = no_sign c 45 d.1.0 (omega arith) in
    let plus = no_sign c 43 d.1.0 (omega arith) in
    let k = digit_from_value c d.1.0 in
    record { digits = unsigned c cs minus plus; value = unsigned_value c cs minus plus; no_plus = λ e. omega (arith, k.0, k.1) }

-- ---- a number of few digits

-- the digits up to the i-th have been read, and write n
pub record IsReadSoFar (text : List ℕ) (i n : ℕ) : Type 0 where
  pub digits : AllDigits 10 (drop i text) → AllDigits 10 text
  pub value : digits_value_after 10 n (drop i text) ≡ digits_value 10 text
  pub bound : n < 10 ^ i

pub nothing_read : (text : List ℕ) → IsReadSoFar text 0 0
nothing_read text = record { digits = λ d. d; value = refl; bound = omega arith }

-- a few digits more, and the number has 64 bits
pub stays_small : (text : List ℕ) (i n : ℕ) → i < length text → length text ≤ 18 → IsReadSoFar text i n → n < 10 ^ 17
stays_small text i n l few h =
    let at_most : i ≤ 17 = omega arith in
    omega (arith, h.bound, pow-le-pow_right {n = 10} (omega arith) at_most)

record IsRead (text : List ℕ) (n : ℕ) : Type 0 where
  form : is_integer_form text ≡ true
  value : written_integer text ≡ pos n

all_read : (text : List ℕ) (i n : ℕ) → 0 < length text → length text ≤ i → IsReadSoFar text i n → IsRead text n
unfolding written_integer
all_read text i n some whole h =
    let gone : drop i text ≡ [] = drop_of_length-le text whole in
    let numeral : IsNumeral 10 text = (some, h.digits (subst (AllDigits 10) (sym gone) tt)) in
    let is : digits_value 10 text ≡ n = sym h.value ∙ ap (digits_value_after 10 n) gone in
    let p = plain text numeral in
    record { form = (form_decides text).1 (subst (IsNumeral 10) (sym p.digits) numeral); value = p.value ∙ ap pos is }

is_some : (text : List ℕ) → (length text == 0) ≡ false → 0 < length text
is_some [] h = absurd (let k : ⊥ = cc in k)
is_some (c ∷ cs) h = omega arith

pub read_form : (text : List ℕ) (i n : ℕ) → (length text == 0) ≡ false → length text ≤ i → IsReadSoFar text i n → is_integer_form text ≡ true
read_form text i n some whole h = (all_read text i n (is_some text some) whole h).form

pub read_value : (text : List ℕ) (i n : ℕ) → (length text == 0) ≡ false → length text ≤ i → IsReadSoFar text i n → written_integer text ≡ pos n
read_value text i n some whole h = (all_read text i n (is_some text some) whole h).value

pub short_integer_read : (l : LiteralParts) (datatype text bytes : List ℕ) (same : Bool) (number : ℕ) (value : ℤ) → value ≡ pos number → number < 2 ^ 64 → is_integer_form bytes ≡ true → written_integer bytes ≡ pos number
    → bytes ≡ text → text ≡ l.lexical → datatype ≡ l.datatype → same ≡ pointwise nat_eq datatype xsd_integer → same ≡ true → Some (to_z w128 (of_z w128 value)) ≡ integer_of l
short_integer_read l datatype text bytes same number value v small form written b e d is agrees =
    let fits : FitsSigned w128 (pos number) = record { sfits = omega arith } in
    let form_there : is_integer_form l.lexical ≡ true = subst (λ t. is_integer_form t ≡ true) (b ∙ e) form in
    let written_there : written_integer l.lexical ≡ pos number = subst (λ t. written_integer t ≡ pos number) (b ∙ e) written in
    let fits_there : fits_128_bits (written_integer l.lexical) ≡ true = ap fits_128_bits written_there ∙ (fits_decides (pos number)).1 fits in
    ap (λ n. Some (to_z w128 (of_z w128 n))) v ∙ ap Some (to_z-of_z w128 (pos number) fits)
    ∙ integer_is l datatype text same (Some (pos number)) (ap Some (sym written_there) ∙ sym (cond-true _ _ _ (and_from _ _ form_there fits_there))) d is agrees

-- ---- the laws

small_number : (n : ℕ) → FitsSigned w128 (pos n) → n < 10 ^ 64
small_number n h = omega (arith, h.sfits)

small_negative : (n : ℕ) → FitsSigned w128 (negsuc n) → suc n < 10 ^ 64
small_negative n h = omega (arith, h.sfits)

read : (n : ℤ) → FitsSigned w128 n → written_integer (decimal n) ≡ n
unfolding written_integer decimal
read (pos n) h = let k = decimal_is_IsNumeral_wide n (small_number n h) in (plain (fmt.decimal n) k.0).value ∙ ap pos k.1
read (negsuc n) h = ap (λ m. neg_ℤ (pos m)) (decimal_is_IsNumeral_wide (suc n) (small_negative n h)).1

pub decimals_read : (n : ℤ) → fits_128_bits n ≡ true → written_integer (decimal n) ≡ n
decimals_read n h = read n ((fits_decides n).0 h)

canonical_from : (text ds : List ℕ) → without_leading_sign text ≡ ds → IsNumeral 10 ds → get_or text 0 0 ≢ 43 → (get_or ds 0 0 ≢ 48) ⊎ (text ≡ codes "0") → is_canonical text ≡ true
unfolding is_canonical
canonical_from text ds e d no_plus last =
    and_from _ _
    (and_from _ _ ((form_decides text).1 (subst (IsNumeral 10) (sym e) d)) (not_from_false _ (ne_eqb _ 43 no_plus)))
    (elim last [
      | inl no_zero ↦ or_left _ _ (not_from_false _ (ne_eqb _ 48 (λ z. no_zero (sym (ap (λ t. get_or t 0 0) e) ∙ z))))
      | inr is ↦ or_right _ _ ((bytes_eq-Decides text (codes "0")).1 is)
    ])

canonical : (n : ℤ) → FitsSigned w128 n → is_canonical (decimal n) ≡ true
unfolding decimal
canonical (pos n) h =
    let small = small_number n h in
    let d = (decimal_is_IsNumeral_wide n small).0 in
    let p = plain (fmt.decimal n) d in
    canonical_from (fmt.decimal n) (fmt.decimal n) p.digits d p.no_plus
    (elim (cases_lt 0 n) [ inl some ↦ inl (no_zero_first n small some) | inr none ↦ inr (ap fmt.decimal (omega arith) ∙ decimal_digit 0 (omega arith)) ])
canonical (negsuc n) h =
    let small = small_negative n h in
    canonical_from (45 ∷ fmt.decimal (suc n)) (fmt.decimal (suc n)) refl (decimal_is_IsNumeral_wide (suc n) small).0 (λ e. omega (arith, e)) (inl (no_zero_first (suc n) small (omega arith)))

pub decimals_canonical : (n : ℤ) → fits_128_bits n ≡ true → is_canonical (decimal n) ≡ true
decimals_canonical n h = canonical n ((fits_decides n).0 h)

-- a canonical text has digits, no plus, and no zero in front but in `0`
record CanonicalParts (text : List ℕ) : Type 0 where
  digits : IsNumeral 10 (without_leading_sign text)
  no_plus : get_or text 0 0 ≢ 43
  last : (get_or (without_leading_sign text) 0 0 ≢ 48) ⊎ (text ≡ codes "0")

canonical_parts : (text : List ℕ) → is_canonical text ≡ true → CanonicalParts text
unfolding is_canonical
canonical_parts text h =
    let outer = and_parts _ _ h in
    let inner = and_parts _ _ outer.0 in
    record {
      digits = (form_decides text).0 inner.0;
      no_plus = eqb-false _ 43 (not-true _ inner.1);
      last = elim (or_cases _ _ outer.1) [ inl differs ↦ inl (eqb-false _ 48 (not-true _ differs)) | inr is ↦ inr ((bytes_eq-Decides text (codes "0")).0 is) ];
    }

negative : (v : ℕ) (cs : List ℕ) → fmt.decimal v ≡ cs → get_or cs 0 0 ≢ 48 → signed_decimal (neg_ℤ (pos v)) ≡ 45 ∷ cs
negative zero cs e no_zero = absurd (no_zero (ap (λ t. get_or t 0 0) (sym e ∙ decimal_digit 0 (omega arith))))
negative (suc m) cs e no_zero = ap (λ t. 45 ∷ t) e

small_below_zero : (v : ℕ) → FitsSigned w128 (neg_ℤ (pos v)) → v < 10 ^ 64
small_below_zero zero h = omega arith
small_below_zero (suc m) h = omega (arith, h.sfits)

behind_minus : (cs : List ℕ) → CanonicalParts (45 ∷ cs) → FitsSigned w128 (signed_digits_value 10 (45 ∷ cs)) → signed_decimal (signed_digits_value 10 (45 ∷ cs)) ≡ 45 ∷ cs
behind_minus cs k h =
    let no_zero : get_or cs 0 0 ≢ 48 = elim k.last [ inl differs ↦ differs | inr is ↦ absurd (omega (arith, ap (λ t. get_or t 0 0) is)) ] in
    negative (digits_value 10 cs) cs (value_digits cs k.digits (λ z. absurd (no_zero z)) (small_below_zero _ h)) no_zero

one : (text : List ℕ) → CanonicalParts text → FitsSigned w128 (signed_digits_value 10 text) → signed_decimal (signed_digits_value 10 text) ≡ text
one [] k h = absurd (omega (arith, k.digits.0))
one (c ∷ cs) k h =
    elim (cases_Bool (c == 45)) [
      | inl is ↦ subst (λ d. CanonicalParts (d ∷ cs) → FitsSigned w128 (signed_digits_value 10 (d ∷ cs)) → signed_decimal (signed_digits_value 10 (d ∷ cs)) ≡ d ∷ cs) (sym (eqb-true c 45 is)) (behind_minus cs) k h
      | inr other ↦ with_none other (ne_eqb c 43 k.no_plus)
    ]
  where
    with_none : (c == 45) ≡ false → (c == 43) ≡ false → signed_decimal (signed_digits_value 10 (c ∷ cs)) ≡ c ∷ cs
    with_none minus plus =
        let same = unsigned c cs minus plus in
        let value = unsigned_value c cs minus plus in
        let lead : c ≡ 48 → length (c ∷ cs) ≡ 1 = λ z. elim k.last [ inl differs ↦ absurd (differs (ap (λ t. get_or t 0 0) same ∙ z)) | inr is ↦ ap length is ] in
        ap signed_decimal value ∙ value_digits (c ∷ cs) (subst (IsNumeral 10) same k.digits) lead (small_number _ (subst (FitsSigned w128) value h))

pub one_canonical : (text : List ℕ) → is_canonical text ≡ true → fits_128_bits (written_integer text) ≡ true → decimal (written_integer text) ≡ text
unfolding written_integer decimal
one_canonical text h fits = one text (canonical_parts text h) ((fits_decides _).0 fits)

pub integers_back : (n : ℤ) → fits_128_bits n ≡ true → integer_of (integer_literal n) ≡ Some n
unfolding integer_of
integers_back n h =
    let same : written_integer (decimal n) ≡ n = decimals_read n h in
    let form : is_integer_form (decimal n) ≡ true = (form_decides (decimal n)).1 (canonical_parts (decimal n) (decimals_canonical n h)).digits in
    cond-true _ _ _ (and_from _ _ ((bytes_eq-Decides xsd_integer xsd_integer).1 refl) (and_from _ _ form (ap fits_128_bits same ∙ h))) ∙ ap Some same
