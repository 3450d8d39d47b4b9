-- Of two rows that have the same before a column the one with the lower code comes first.
use Rattle.std.proofs.Common.{◌≡◌, Bool, true, false, ℕ, zero, suc, ◌+◌, ◌*◌, ◌^◌, ◌<◌, ◌≤◌, List, [], ◌∷◌, ◌++◌, length, take, drop, Option, Some, None, All, IfSome, refl, sym, ap, ◌∙◌, subst, arith, cond, nat_lt, get_or, ◌-◌, ap₂, add-zero, take-append-drop, get_or-drop}
use Rattle.std.specs.Cmp.{IsTotalOrder, tied_itself}
use Rattle.std.specs.Cmp.Lexicographic.{slice_cmp, options_total}
use Rattle.std.specs.Option.{option_cmp}
use Rattle.std.specs.Ordering.{nat_cmp, ordering_then}
use Rattle.std.specs.declared.cmp.Ordering.{Ordering}
use Rattle.std.specs.declared.cmp.Ordering.TheVariants.{Less}
use Rattle.std.proofs.Math.Nat.{mul-le-mul_left, mul-le-mul_right, pow-suc}
use Rattle.std.proofs.lemmas.List.{drop-drop, drop_all, drop_more}
use Rattle.std.proofs.lemmas.Bool.{ltb-true, ltb-false}
use Rattle.std.proofs.lemmas.Cmp.{by_ranked, nat_cmp_total, ranked}
use Rattle.std.proofs.lemmas.List.Elements.{All-head, All-tail}
use Rattle.rdf_terms.specs.Order.{term_cmp, text_cmp, tag_cmp}
use Rattle.rdf_terms.specs.OrderLaws.{term_cmp_total}
use Rattle.rdf_terms.specs.declared.term.Term.{Term}
use Rattle.rdf_terms.specs.declared.term.Term.TheVariants.{Blank, Iri, Literal}
use Rattle.sparql_values.specs.Mapping.{Mapping, value_at}
use Rattle.sparql_algebra.specs.Order.{mapping_cmp}
use Rattle.sparql_solve.specs.Coded.{BeginsWith, digits, row_code, text_of, value_code}

abbrev pub IsByte : ℕ → Type 0
IsByte byte = byte < 256

-- ---- texts

power_above : (n : ℕ) → 0 < 256 ^ n
power_above zero = omega arith
power_above (suc n) = omega (arith, pow-suc 256 n, power_above n)

pub digits_below : (n : ℕ) (text : List ℕ) → All IsByte text → digits n text < 256 ^ n
unfolding digits
digits_below zero text h = power_above zero
digits_below (suc n) [] h = power_above (suc n)
digits_below (suc n) (byte ∷ text) h =
    let first : byte + 1 ≤ 256 = omega (arith, All-head IsByte byte text h) in
    omega (arith, pow-suc 256 n, digits_below n text (All-tail IsByte byte text h), mul-le-mul_right (256 ^ n) first)

digits_less : (n : ℕ) (s t : List ℕ) → All IsByte t → digits n s < digits n t → text_cmp s t ≡ Less
unfolding digits
digits_less zero s t h lt = absurd (omega arith)
digits_less (suc n) [] [] h lt = absurd (omega arith)
digits_less (suc n) [] (c ∷ t) h lt = refl
digits_less (suc n) (b ∷ s) [] h lt = absurd (omega arith)
digits_less (suc n) (b ∷ s) (c ∷ t) h lt =
    by_ranked (b < c) (b ≡ c) (c < b) (nat_cmp b c) (ranked b c (nat_cmp b c) refl)
    (λ e p. ap (λ o. ordering_then o (text_cmp s t)) e)
    (λ e p.
    let weight : b * 256 ^ n ≡ c * 256 ^ n = ap (λ x. x * 256 ^ n) p in
    ap (λ o. ordering_then o (text_cmp s t)) e ∙ digits_less n s t (All-tail IsByte c t h) (omega (arith, lt, weight)))
    (λ e p.
    let more : c + 1 ≤ b = omega (arith, p) in
    absurd (omega (arith, lt, digits_below n t (All-tail IsByte c t h), mul-le-mul_right (256 ^ n) more)))

-- what two lists begin with alike decides nothing
behind_same : {X : Type 0} {R : X → X → Ordering} → IsTotalOrder R → (start xs ys : List X) → slice_cmp R (start ++ xs) (start ++ ys) ≡ slice_cmp R xs ys
behind_same o [] xs ys = refl
behind_same {R = R} o (x ∷ start) xs ys =
    ap (λ r. ordering_then r (slice_cmp R (start ++ xs) (start ++ ys))) (tied_itself o x) ∙ behind_same o start xs ys

text_less : (start s t : List ℕ) → s ≡ start ++ drop (length start) s → t ≡ start ++ drop (length start) t → All IsByte (drop (length start) t) →
    digits 7 (drop (length start) s) < digits 7 (drop (length start) t) → text_cmp s t ≡ Less
text_less start s t e f h lt =
    ap₂ text_cmp e f ∙ behind_same nat_cmp_total start (drop (length start) s) (drop (length start) t)
    ∙ digits_less 7 (drop (length start) s) (drop (length start) t) h lt

-- ---- one digit after another

digits_step : (n : ℕ) (text : List ℕ) → digits (suc n) text ≡ get_or text 0 0 * 256 ^ n + digits n (drop 1 text)
unfolding digits
digits_step n [] = omega (arith, digits_none n)
  where
    digits_none : (n : ℕ) → digits n [] ≡ 0
    digits_none zero = refl
    digits_none (suc n) = refl
digits_step n (byte ∷ text) = refl

-- the digits so far, and those of the rest of the text, are those of the text
abbrev pub IsNumberTo : ℕ → ℕ → List ℕ → Type 0
IsNumberTo number place text = number * 256 ^ (7 - place) + digits (7 - place) (drop place text) ≡ digits 7 text

pub number_begins : (text : List ℕ) → IsNumberTo 0 0 text
number_begins text = omega arith

pub number_is : (number : ℕ) (text : List ℕ) → IsNumberTo number 7 text → number ≡ digits 7 text
unfolding digits
number_is number text h = omega (arith, h)

left_before : (place : ℕ) → place < 7 → 7 - place ≡ suc (7 - (place + 1))
left_before place p = omega arith

pub number_more : (number place : ℕ) (text : List ℕ) → place < 7 → IsNumberTo number place text → IsNumberTo (number * 256 + get_or text place 0) (place + 1) text
number_more number place text p h =
    let n : ℕ = 7 - (place + 1) in
    let at : number * 256 ^ suc n + digits (suc n) (drop place text) ≡ digits 7 text =
    subst (λ m. number * 256 ^ m + digits m (drop place text) ≡ digits 7 text) (left_before place p) h in
    let byte : get_or (drop place text) 0 0 * 256 ^ n ≡ get_or text place 0 * 256 ^ n =
    ap (λ x. x * 256 ^ n) (get_or-drop place text 0 0 ∙ ap (λ k. get_or text k 0) (add-zero place)) in
    let rest : digits n (drop 1 (drop place text)) ≡ digits n (drop (place + 1) text) = ap (digits n) (drop-drop 1 place text) in
    let weight : number * 256 ^ suc n ≡ number * (256 ^ n * 256) = ap (λ x. number * x) (pow-suc 256 n) in
    omega (arith, at, digits_step n (drop place text), byte, rest, weight)

pub number_fits : (number place : ℕ) (text : List ℕ) → place < 7 → IsNumberTo number place text → All IsByte text → number * 256 < 2 ^ 56
number_fits number place text p h b =
    let n : ℕ = 7 - (place + 1) in
    let at : number * 256 ^ suc n + digits (suc n) (drop place text) ≡ digits 7 text =
    subst (λ m. number * 256 ^ m + digits m (drop place text) ≡ digits 7 text) (left_before place p) h in
    let weight : number * 256 ^ suc n ≡ number * (256 ^ n * 256) = ap (λ x. number * x) (pow-suc 256 n) in
    omega (arith, at, weight, digits_below 7 text b, mul-le-mul_left (number * 256) (power_above n))

-- ---- values

abbrev pub HasBytes : ℕ → Option Term → Type 0
HasBytes skipped v = IfSome (text_of v) (λ text. All IsByte (drop skipped text))

value_less : (start : List ℕ) (v w : Option Term) → BeginsWith start v → BeginsWith start w → HasBytes (length start) w →
    value_code (length start) v < value_code (length start) w → option_cmp term_cmp v w ≡ Less
value_less start None None e f h lt = absurd (omega arith)
value_less start None (Some w) e f h lt = refl
value_less start (Some (Blank m)) None e f h lt = absurd (omega arith)
value_less start (Some (Blank m)) (Some (Blank n)) e f h lt = absurd (omega arith)
value_less start (Some (Blank m)) (Some (Iri t)) e f h lt = refl
value_less start (Some (Blank m)) (Some (Literal l)) e f h lt = refl
value_less start (Some (Iri s)) None e f h lt = absurd (omega arith)
value_less start (Some (Iri s)) (Some (Blank n)) e f h lt = absurd (omega arith)
value_less start (Some (Iri s)) (Some (Iri t)) e f h lt = text_less start s t e f h (omega arith)
value_less start (Some (Iri s)) (Some (Literal l)) e f h lt = refl
value_less start (Some (Literal k)) None e f h lt = absurd (omega arith)
value_less start (Some (Literal k)) (Some (Blank n)) e f h lt = absurd (omega arith)
value_less start (Some (Literal k)) (Some (Iri t)) e f h lt =
    absurd (omega (arith, digits_below 7 (drop (length start) t) h))
value_less start (Some (Literal k)) (Some (Literal l)) e f h lt =
    ap (λ o. ordering_then o (ordering_then (text_cmp k.datatype l.datatype) (tag_cmp k.tag l.tag))) (text_less start k.lexical l.lexical e f h (omega arith))

-- ---- rows

abbrev first_code : ℕ → Mapping → ℕ
first_code skipped [] = 0
first_code skipped (v ∷ m) = value_code skipped v

row_code_is : (column skipped : ℕ) (m : Mapping) → row_code column skipped m ≡ first_code skipped (drop column m)
row_code_is column skipped m = by_test (nat_lt column (length m)) refl
  where
    by_test : (b : Bool) → nat_lt column (length m) ≡ b → cond b (value_code skipped (value_at m column)) 0 ≡ first_code skipped (drop column m)
    by_test true e = sym (ap (first_code skipped) (drop_more m column None (ltb-true column (length m) e)))
    by_test false e = sym (ap (first_code skipped) (drop_all column m (ltb-false column (length m) e)))

first_less : (start : List ℕ) (a b : Mapping) → BeginsWith start (value_at a 0) → BeginsWith start (value_at b 0) → HasBytes (length start) (value_at b 0) →
    first_code (length start) a < first_code (length start) b → mapping_cmp a b ≡ Less
first_less start [] [] e f h lt = absurd (omega arith)
first_less start [] (w ∷ b) e f h lt = refl
first_less start (v ∷ a) [] e f h lt = absurd (omega arith)
first_less start (v ∷ a) (w ∷ b) e f h lt = ap (λ o. ordering_then o (mapping_cmp a b)) (value_less start v w e f h lt)

value_behind : (column : ℕ) (m : Mapping) → value_at m column ≡ value_at (drop column m) 0
value_behind column m = sym (get_or-drop column m 0 None ∙ ap (λ n. get_or m n None) (add-zero column))

pub row_less : (start : List ℕ) (column : ℕ) (a b : Mapping) → take column a ≡ take column b →
    BeginsWith start (value_at a column) → BeginsWith start (value_at b column) → HasBytes (length start) (value_at b column) →
    row_code column (length start) a < row_code column (length start) b → mapping_cmp a b ≡ Less
row_less start column a b same e f h lt =
    ap₂ mapping_cmp (sym (take-append-drop column a)) (sym (take-append-drop column b) ∙ ap (λ (front : Mapping). front ++ drop column b) (sym same))
    ∙ behind_same mapping_order (take column a) (drop column a) (drop column b)
    ∙ first_less start (drop column a) (drop column b)
    (subst (BeginsWith start) (value_behind column a) e)
    (subst (BeginsWith start) (value_behind column b) f)
    (subst (HasBytes (length start)) (value_behind column b) h)
    (omega (arith, lt, row_code_is column (length start) a, row_code_is column (length start) b))
  where
    mapping_order : IsTotalOrder (option_cmp term_cmp)
    mapping_order = options_total term_cmp_total
