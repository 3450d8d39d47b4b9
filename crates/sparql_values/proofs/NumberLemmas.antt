-- Results of 128 bits, and the terms that they are.
use Rattle.std.proofs.Common.{◌≡◌, ◌∙◌, Bool, true, false, cond, ◌&&◌, nat_eq, Option, Some, None, ap, sym, refl}
use Rattle.std.proofs.Math.IntN.{ℤ}
use Rattle.std.specs.Prelude.{FitsSigned}
use Rattle.std.specs.Cmp.Lexicographic.{pointwise}
use Rattle.std.specs.Int.{w128}
use Rattle.std.specs.Option.{SomeIff, option_map}
use Rattle.std.proofs.lemmas.Bool.{and_parts, cond-true, cond-false, false_from_ne_true}
use Rattle.rdf_terms.specs.Literal.{LiteralParts}
use Rattle.rdf_terms.specs.Vocabulary.{xsd_integer}
use Rattle.rdf_terms.specs.Integers.{decimal, fits_128_bits, integer_of, integer_literal, is_integer_form, written_integer}
use Rattle.sparql_values.specs.Values.{number, number_or_opaque, effective, integer_term, is_not_zero, operand, within}
use Rattle.rdf_terms.proofs.CallerLemmas.{fits_decides, integers_back}

-- a checked operation is the operation within 128 bits
pub checked : (n : ℤ) (r : Option ℤ) → SomeIff r (FitsSigned w128 n) n → r ≡ within n
checked n None h = sym (cond-false _ _ _ (false_from_ne_true _ (λ is. h ((fits_decides n).0 is))))
checked n (Some x) h = ap Some (h.1) ∙ sym (cond-true _ _ _ ((fits_decides n).1 h.0))

back : (n : ℤ) → FitsSigned w128 n → integer_of (integer_literal n) ≡ Some n
back n h = integers_back n ((fits_decides n).1 h)

pub integer_operand : (n : ℤ) → FitsSigned w128 n → operand (integer_term n) ≡ number n
integer_operand n h = ap number_or_opaque (back n h)

some_differs : {A : Type 0} (a : A) → None ≡ Some a → ⊥
some_differs a e = cc

-- a literal with a value has the form of one
pub form_of : (l : LiteralParts) (n : ℤ) → integer_of l ≡ Some n → is_integer_form l.lexical ≡ true
unfolding integer_of
form_of l n h = by_test (pointwise nat_eq l.datatype xsd_integer && (is_integer_form l.lexical && fits_128_bits (written_integer l.lexical))) refl h
  where
    by_test : (b : Bool) → (pointwise nat_eq l.datatype xsd_integer && (is_integer_form l.lexical && fits_128_bits (written_integer l.lexical))) ≡ b
        → cond b (Some (written_integer l.lexical)) None ≡ Some n → is_integer_form l.lexical ≡ true
    by_test true e k = (and_parts _ _ (and_parts _ _ e).1).0
    by_test false e k = absurd (some_differs n k)

pub integer_effective : (n : ℤ) → FitsSigned w128 n → effective (integer_term n) ≡ Some (is_not_zero n)
integer_effective n h =
    cond-true (is_integer_form (decimal n)) (option_map is_not_zero (integer_of (integer_literal n))) (Some false) (form_of (integer_literal n) n (back n h))
    ∙ ap (option_map is_not_zero) (back n h)
