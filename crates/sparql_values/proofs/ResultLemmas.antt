-- What arithmetic gives is a number of 128 bits, which its term stands for.
use Rattle.std.proofs.Common.{◌≡◌, ◌∙◌, ℕ, Bool, true, false, cond, ◌&&◌, nat_eq, List, [], ◌∷◌, map, Option, Some, None, ap, sym, refl}
use Rattle.std.proofs.Math.IntN.{ℤ, pos, neg_ℤ}
use Rattle.std.specs.Cmp.Lexicographic.{pointwise}
use Rattle.std.specs.List.{fold}
use Rattle.std.specs.Option.{option_and_then}
use Rattle.std.proofs.lemmas.Bool.{and_parts}
use Rattle.rdf_terms.specs.Literal.{LiteralParts, xsd_string}
use Rattle.rdf_terms.specs.Vocabulary.{xsd_boolean, xsd_integer}
use Rattle.rdf_terms.specs.declared.term.Term.{Term}
use Rattle.rdf_terms.specs.declared.term.Term.TheVariants as t
use Rattle.sparql_trees.specs.declared.expression.Sign.{Sign}
use Rattle.sparql_trees.specs.declared.expression.Sign.TheVariants.{Plus, Minus}
use Rattle.rdf_terms.specs.Integers.{fits_128_bits, integer_of, is_integer_form, written_integer}
use Rattle.sparql_values.specs.Laws.{ProductsComeBack, SignedComeBack, SumsComeBack, TruthsComeBack}
use Rattle.sparql_values.specs.Values.{Value, added, boolean, boolean_operand, has_datatype, is_written_false, is_written_true, number_in, number_of_operand, number_or_opaque, of_number, on_both, opaque, operand, plus_or_minus, signed, text, times, value, within}
use Rattle.rdf_terms.proofs.CallerLemmas.{integers_back}
use Rattle.sparql_values.proofs.ValueLemmas.{value-Product, value-Signed, value-Sum}

abbrev Fits : Option ℤ → Type 0
Fits x = (n : ℤ) → x ≡ Some n → fits_128_bits n ≡ true

nothing : Fits None
nothing n e = absurd (let k : ⊥ = cc in k)

-- ---- a literal's number fits

integer_fits : (l : LiteralParts) → Fits (integer_of l)
unfolding integer_of
integer_fits l n h = by_test (pointwise nat_eq l.datatype xsd_integer && (is_integer_form l.lexical && fits_128_bits (written_integer l.lexical))) refl h
  where
    by_test : (b : Bool) → (pointwise nat_eq l.datatype xsd_integer && (is_integer_form l.lexical && fits_128_bits (written_integer l.lexical))) ≡ b
        → cond b (Some (written_integer l.lexical)) None ≡ Some n → fits_128_bits n ≡ true
    by_test true e k = let same : written_integer l.lexical ≡ n = cc in ap fits_128_bits (sym same) ∙ (and_parts _ _ (and_parts _ _ e).1).1
    by_test false e k = absurd (let z : ⊥ = cc in z)

number_fits : (x : Option ℤ) → Fits x → Fits (number_of_operand (number_or_opaque x))
number_fits (Some n) f = f
number_fits None f = nothing

boolean_fits : (lexical : List ℕ) → Fits (number_of_operand (boolean_operand lexical))
boolean_fits lexical = by_tests (is_written_true lexical) (is_written_false lexical)
  where
    by_tests : (b c : Bool) → Fits (number_of_operand (cond b (boolean true) (cond c (boolean false) opaque)))
    by_tests true c = nothing
    by_tests false true = nothing
    by_tests false false = nothing

term_fits : (term : Term) → Fits (number_of_operand (operand term))
term_fits (t.Iri iri) = nothing
term_fits (t.Blank b) = nothing
term_fits (t.Literal l) = by_tests (has_datatype xsd_string l) (has_datatype xsd_boolean l)
  where
    by_tests : (b c : Bool) → Fits (number_of_operand (cond b (text l.lexical) (cond c (boolean_operand l.lexical) (number_or_opaque (integer_of l)))))
    by_tests true c = nothing
    by_tests false true = boolean_fits l.lexical
    by_tests false false = number_fits (integer_of l) (integer_fits l)

pub value_fits : (x : Value) → Fits (number_in x)
value_fits (Some term) = term_fits term
value_fits None = nothing

-- ---- results fit

within_fits : (n : ℤ) → Fits (within n)
within_fits n = by_test (fits_128_bits n) refl
  where
    by_test : (b : Bool) → fits_128_bits n ≡ b → Fits (cond b (Some n) None)
    by_test true e m h = let same : n ≡ m = cc in ap fits_128_bits (sym same) ∙ e
    by_test false e m h = nothing m h

both_fit : (operation : ℤ → ℤ → ℤ) (x y : Option ℤ) → Fits (on_both operation x y)
both_fit operation (Some a) (Some b) = within_fits (operation a b)
both_fit operation (Some a) None = nothing
both_fit operation None y = nothing

sum_fits : (x : Option ℤ) (ys : List (Sign × Value)) → Fits x → Fits (fold added x ys)
sum_fits x [] f = f
sum_fits x (y ∷ ys) f = sum_fits (added x y) ys (both_fit (plus_or_minus y.0) x (number_in y.1))

product_fits : (x : Option ℤ) (ys : List (Option ℤ)) → Fits x → Fits (fold (on_both times) x ys)
product_fits x [] f = f
product_fits x (y ∷ ys) f = product_fits (on_both times x y) ys (both_fit times x y)

one : fits_128_bits (pos 1) ≡ true
unfolding fits_128_bits
one = refl

one_fits : Fits (Some (pos 1))
one_fits n h = let same : pos 1 ≡ n = cc in ap fits_128_bits (sym same) ∙ one

signed_fits : (sign : Sign) (x : Option ℤ) → Fits x → Fits (option_and_then (signed sign) x)
signed_fits Plus (Some n) f = f
signed_fits Minus (Some n) f = within_fits (neg_ℤ n)
signed_fits Plus None f = nothing
signed_fits Minus None f = nothing

-- ---- and come back

back : (x : Option ℤ) → Fits x → number_in (of_number x) ≡ x
back (Some n) f = ap (λ x. number_of_operand (number_or_opaque x)) (integers_back n (f n refl))
back None f = refl

pub truths_back : TruthsComeBack
truths_back true = refl
truths_back false = refl

pub sums_back : SumsComeBack
sums_back b x ys = ap number_in (value-Sum b x ys) ∙ back _ (sum_fits _ (map (λ y. (y.0, value b y.1)) ys) (value_fits (value b x)))

pub products_back : ProductsComeBack
products_back b xs = ap number_in (value-Product b xs) ∙ back _ (product_fits (Some (pos 1)) (map (λ x. number_in (value b x)) xs) one_fits)

pub signed_back : SignedComeBack
signed_back b sign x = ap number_in (value-Signed b sign x) ∙ back _ (signed_fits sign _ (value_fits (value b x)))
