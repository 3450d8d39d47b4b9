-- The form of a whole number, and its truth.
use Rattle.std.proofs.Common.{◌≡◌, ◌∙◌, ◌==◌, ◌&&◌, ◌<◌, ℕ, Bool, true, false, nat_lt, List, [], ◌∷◌, length, Some, ap, sym, refl, arith}
use Rattle.std.proofs.Math.IntN.{ℤ}
use Rattle.std.specs.Char.{is_ascii_digit}
use Rattle.std.specs.List.{list_all}
use Rattle.std.specs.Option.{option_map}
use Rattle.std.specs.Str.{all_ascii_digits}
use Rattle.std.specs.Str.Parse.{without_leading_sign}
use Rattle.std.proofs.lemmas.Bool.{cond-true, eqb-true, lt-ltb}
use Rattle.rdf_terms.specs.Integers.{integer_of, is_integer_form}
use Rattle.rdf_terms.specs.Literal.{LiteralParts}
use Rattle.sparql_values.specs.Values.{integer_truth, is_not_zero}
use Rattle.sparql_values.proofs.NumberLemmas.{form_of}

digits_all : (ds : List ℕ) → list_all is_ascii_digit ds ≡ all_ascii_digits ds
digits_all [] = refl
digits_all (c ∷ cs) = ap (λ b. is_ascii_digit c && b) (digits_all cs)

none_by : (ds : List ℕ) → (length ds == 0) ≡ true → false ≡ (nat_lt 0 (length ds) && all_ascii_digits ds)
none_by [] h = refl
none_by (c ∷ cs) h = let z : length (c ∷ cs) ≡ 0 = eqb-true (length (c ∷ cs)) 0 h in absurd (omega arith)

some_by : (ds : List ℕ) → (length ds == 0) ≡ false → list_all is_ascii_digit ds ≡ (nat_lt 0 (length ds) && all_ascii_digits ds)
some_by [] h = let k : true ≡ false = h in absurd (let z : ⊥ = cc in z)
some_by (c ∷ cs) h =
    digits_all (c ∷ cs) ∙ sym (ap (λ b. b && all_ascii_digits (c ∷ cs)) (lt-ltb 0 (length (c ∷ cs)) (let l : 0 < length (c ∷ cs) = omega arith in l)))

pub form_none : (text ds : List ℕ) (e : Bool) → ds ≡ without_leading_sign text → e ≡ (length ds == 0) → e ≡ true → false ≡ is_integer_form text
unfolding is_integer_form
form_none text ds e d h t = none_by (without_leading_sign text) (ap (λ xs. length xs == 0) (sym d) ∙ sym h ∙ t)

pub form_some : (text ds : List ℕ) (e r : Bool) → ds ≡ without_leading_sign text → e ≡ (length ds == 0) → e ≡ false → r ≡ list_all is_ascii_digit ds → r ≡ is_integer_form text
unfolding is_integer_form
form_some text ds e r d h t k = k ∙ ap (list_all is_ascii_digit) d ∙ some_by (without_leading_sign text) (ap (λ xs. length xs == 0) (sym d) ∙ sym h ∙ t)

-- a whole number is true where it isn't zero
pub truth_some : (l : LiteralParts) (n : ℤ) (r : Bool) → Some n ≡ integer_of l → r ≡ is_not_zero n → Some r ≡ integer_truth l
truth_some l n r h k =
    ap Some k ∙ sym (cond-true (is_integer_form l.lexical) (option_map is_not_zero (integer_of l)) (Some false) (form_of l n (sym h))
    ∙ ap (option_map is_not_zero) (sym h))
