-- The value of an expression of each kind.
use Rattle.std.proofs.Common.{◌≡◌, ◌∙◌, ℕ, true, false, List, [], ◌∷◌, map, Option, Some, is_some, Result, Ok, Err, ap, sym, refl}
use Rattle.std.specs.Prelude.{IfOk, IsOkAnd}
use Rattle.std.proofs.Math.IntN.{ℤ, pos}
use Rattle.std.specs.List.{fold}
use Rattle.std.specs.Option.{option_and_then, option_map}
use Rattle.rdf_terms.specs.declared.term.Term.{Term}
use Rattle.sparql_trees.specs.declared.expression.Comparison.{Comparison}
use Rattle.sparql_trees.specs.declared.expression.Function.{Function}
use Rattle.sparql_trees.specs.declared.expression.Sign.{Sign}
use Rattle.sparql_trees.specs.declared.expression.Expression.{Expression}
use Rattle.sparql_trees.specs.declared.expression.Expression.TheVariants as e
use Rattle.sparql_trees.specs.declared.expression.Expression.TheOpen.{Expression-F}
use Rattle.sparql_trees.specs.declared.expression.Expression.TheFolds.{fold-roll-Expression}
use Rattle.sparql_values.specs.Mapping.{same_term}
use Rattle.sparql_values.specs.Values.{Bindings, Truth, Value, added, boolean_term, both, called, compared, either, negated, number_in, of_number, of_truth, on_both, signed, times, truth, value, value_by}

fused : {A B C : Type 0} (f : B → C) (g : A → B) (xs : List A) → map f (map g xs) ≡ map (λ x. f (g x)) xs
fused f g [] = refl
fused {C = C} f g (x ∷ xs) = ap (λ (ys : List C). f (g x) ∷ ys) (fused f g xs)

module _ (b : Bindings) where
  abbrev pub truth_of : Expression → Truth
  truth_of x = truth (value b x)

  abbrev pub number_of : Expression → Option ℤ
  number_of x = number_in (value b x)

  pub value-Or : (xs : List Expression) → value b (e.Or xs) ≡ of_truth (fold either (Some false) (map truth_of xs))
  value-Or xs =
      ap (value b) (sym (e.rolls-Or xs)) ∙ fold-roll-Expression Value (value_by b) (Expression-F.Or xs)
      ∙ ap (λ ts. of_truth (fold either (Some false) ts)) (fused truth (value b) xs)

  pub value-And : (xs : List Expression) → value b (e.And xs) ≡ of_truth (fold both (Some true) (map truth_of xs))
  value-And xs =
      ap (value b) (sym (e.rolls-And xs)) ∙ fold-roll-Expression Value (value_by b) (Expression-F.And xs)
      ∙ ap (λ ts. of_truth (fold both (Some true) ts)) (fused truth (value b) xs)

  pub value-Compare : (operator : Comparison) (x y : Expression) →
      value b (e.Compare operator x y) ≡ of_truth (option_and_then (λ s. option_and_then (compared operator s) (value b y)) (value b x))
  value-Compare operator x y =
      ap (value b) (sym (e.rolls-Compare operator x y)) ∙ fold-roll-Expression Value (value_by b) (Expression-F.Compare operator x y)

  pub value-Sum : (x : Expression) (ys : List (Sign × Expression)) →
      value b (e.Sum x ys) ≡ of_number (fold added (number_of x) (map (λ y. (y.0, value b y.1)) ys))
  value-Sum x ys = ap (value b) (sym (e.rolls-Sum x ys)) ∙ fold-roll-Expression Value (value_by b) (Expression-F.Sum x ys)

  pub value-Product : (xs : List Expression) → value b (e.Product xs) ≡ of_number (fold (on_both times) (Some (pos 1)) (map number_of xs))
  value-Product xs =
      ap (value b) (sym (e.rolls-Product xs)) ∙ fold-roll-Expression Value (value_by b) (Expression-F.Product xs)
      ∙ ap (λ ns. of_number (fold (on_both times) (Some (pos 1)) ns)) (fused number_in (value b) xs)

  pub value-Not : (x : Expression) → value b (e.Not x) ≡ of_truth (negated (truth_of x))
  value-Not x = ap (value b) (sym (e.rolls-Not x)) ∙ fold-roll-Expression Value (value_by b) (Expression-F.Not x)

  pub value-Signed : (sign : Sign) (x : Expression) → value b (e.Signed sign x) ≡ of_number (option_and_then (signed sign) (number_of x))
  value-Signed sign x = ap (value b) (sym (e.rolls-Signed sign x)) ∙ fold-roll-Expression Value (value_by b) (Expression-F.Signed sign x)

  pub value-Variable : (name : List ℕ) → value b (e.Variable name) ≡ b name
  value-Variable name = ap (value b) (sym (e.rolls-Variable name)) ∙ fold-roll-Expression Value (value_by b) (Expression-F.Variable name)

  pub value-Term : (t : Term) → value b (e.Term t) ≡ Some t
  value-Term t = ap (value b) (sym (e.rolls-Term t)) ∙ fold-roll-Expression Value (value_by b) (Expression-F.Term t)

  pub value-Bound : (name : List ℕ) → value b (e.Bound name) ≡ Some (boolean_term (is_some (b name)))
  value-Bound name = ap (value b) (sym (e.rolls-Bound name)) ∙ fold-roll-Expression Value (value_by b) (Expression-F.Bound name)

  pub value-SameTerm : (x y : Expression) →
      value b (e.SameTerm x y) ≡ of_truth (option_and_then (λ s. option_map (same_term s) (value b y)) (value b x))
  value-SameTerm x y = ap (value b) (sym (e.rolls-SameTerm x y)) ∙ fold-roll-Expression Value (value_by b) (Expression-F.SameTerm x y)

  pub value-Call : (function : Function) (x : Expression) → value b (e.Call function x) ≡ option_and_then (called function) (value b x)
  value-Call function x = ap (value b) (sym (e.rolls-Call function x)) ∙ fold-roll-Expression Value (value_by b) (Expression-F.Call function x)

  -- the value that is said, where a number is worked out
  abbrev Said : {V E : Type 0} → (V → Value) → Result (Option ℤ) E → Result V E → Type 0
  Said as_value answer result = IfOk result (λ v. IsOkAnd answer (λ n. as_value v ≡ of_number n))

  said : {V E : Type 0} (as_value : V → Value) (answer : Result (Option ℤ) E) (result : Result V E) (n : Option ℤ) (whole : Value)
      → IfOk answer (λ m. m ≡ n) → Said as_value answer result → of_number n ≡ whole → IfOk result (λ v. as_value v ≡ whole)
  said as_value (Ok m) (Ok v) n whole a s e = s ∙ ap of_number a ∙ e
  said as_value (Err d) (Ok v) n whole a s e = absurd s
  said as_value answer (Err d) n whole a s e = tt

  pub sum_said : {V E : Type 0} (as_value : V → Value) (x : Expression) (ys : List (Sign × Expression)) (whole got : Expression) (first : Option ℤ)
      (gots : List (Sign × Expression)) (answer : Result (Option ℤ) E) (result : Result V E)
      → whole ≡ e.Sum x ys → got ≡ x → first ≡ number_of got → gots ≡ ys → IfOk answer (λ n. n ≡ fold added first (map (λ y. (y.0, value b y.1)) gots))
      → Said as_value answer result → IfOk result (λ v. as_value v ≡ value b whole)
  sum_said as_value x ys whole got first gots answer result is gx f gy a s =
      said as_value answer result _ _ a s
      (ap of_number (ap (λ m. fold added m (map (λ y. (y.0, value b y.1)) gots)) (f ∙ ap number_of gx)
      ∙ ap (λ zs. fold added (number_of x) (map (λ y. (y.0, value b y.1)) zs)) gy)
      ∙ sym (value-Sum x ys) ∙ ap (value b) (sym is))

  pub product_said : {V E : Type 0} (as_value : V → Value) (xs : List Expression) (whole : Expression) (gots : List Expression)
      (answer : Result (Option ℤ) E) (result : Result V E)
      → whole ≡ e.Product xs → gots ≡ xs → IfOk answer (λ n. n ≡ fold (on_both times) (Some (pos 1)) (map number_of gots))
      → Said as_value answer result → IfOk result (λ v. as_value v ≡ value b whole)
  product_said as_value xs whole gots answer result is gx a s =
      said as_value answer result _ _ a s
      (ap of_number (ap (λ zs. fold (on_both times) (Some (pos 1)) (map number_of zs)) gx) ∙ sym (value-Product xs) ∙ ap (value b) (sym is))
