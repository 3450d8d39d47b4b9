-- What each form of an expression makes of the values of its parts.
use Rattle.std.proofs.Common.{◌≡◌, ◌≢◌, ◌⊎◌, ◌++◌, ◌∙◌, true, false, List, [], ◌∷◌, map, Some, None, ap, sym, refl, inl, inr}
use Rattle.std.proofs.lemmas.Bool.{cases_Bool}
use Rattle.std.specs.List.{fold}
use Rattle.std.specs.Option.{option_and_then, option_map}
use Rattle.rdf_terms.specs.declared.term.Term.{Term}
use Rattle.sparql_trees.specs.declared.expression.Comparison.{Comparison}
use Rattle.sparql_trees.specs.declared.expression.Expression.{Expression}
use Rattle.sparql_trees.specs.declared.expression.Expression.TheVariants as e
use Rattle.sparql_values.specs.Mapping.{same_term}
use Rattle.sparql_values.specs.Tables.{FormTable}
use Rattle.sparql_values.specs.Values.{Bindings, Truth, Value, boolean_term, both, called, compared, either, negated, of_truth, truth, value}
use Rattle.sparql_values.proofs.ResultLemmas.{truths_back}
use Rattle.sparql_values.proofs.TermLemmas.{same_term_is as one_term, same_term_own}
use Rattle.sparql_values.proofs.ValueLemmas.{truth_of, value-Or, value-And, value-Not, value-Compare, value-SameTerm, value-Call, value-Term}

back : (x : Truth) → truth (of_truth x) ≡ x
back (Some b) = truths_back b
back None = refl

fold_last : {A : Type 0} (f : Truth → Truth → Truth) (g : A → Truth) (z : Truth) (xs : List A) (x : A) →
    fold f z (map g (xs ++ x ∷ [])) ≡ f (fold f z (map g xs)) (g x)
fold_last f g z [] x = refl
fold_last f g z (y ∷ ys) x = fold_last f g (f z (g y)) ys x

module _ (b : Bindings) where
  or_is : (xs : List Expression) → truth (value b (e.Or xs)) ≡ fold either (Some false) (map (truth_of b) xs)
  or_is xs = ap truth (value-Or b xs) ∙ back (fold either (Some false) (map (truth_of b) xs))

  and_is : (xs : List Expression) → truth (value b (e.And xs)) ≡ fold both (Some true) (map (truth_of b) xs)
  and_is xs = ap truth (value-And b xs) ∙ back (fold both (Some true) (map (truth_of b) xs))

  compared_at : (c : Comparison) → Value → Value → Value
  compared_at c x y = of_truth (option_and_then (λ s. option_and_then (compared c s) y) x)

  same_at : Value → Value → Value
  same_at x y = of_truth (option_and_then (λ s. option_map (same_term s) y) x)

  compared_error : (c : Comparison) (x y : Value) → (x ≡ None) ⊎ (y ≡ None) → compared_at c x y ≡ None
  unfolding compared_at
  compared_error c x y (inl p) = ap (λ v. compared_at c v y) p
  compared_error c (Some s) y (inr q) = ap (λ v. of_truth (option_and_then (compared c s) v)) q
  compared_error c None y (inr q) = refl

  same_error : (x y : Value) → (x ≡ None) ⊎ (y ≡ None) → same_at x y ≡ None
  unfolding same_at
  same_error x y (inl p) = ap (λ v. same_at v y) p
  same_error (Some s) y (inr q) = ap (λ v. of_truth (option_map (same_term s) v)) q
  same_error None y (inr q) = refl

  same_value : (x y : Value) (s u : Term) → x ≡ Some s → y ≡ Some u → same_at x y ≡ Some (boolean_term (same_term s u))
  unfolding same_at
  same_value x y s u p q = λ i. same_at (p i) (q i)

  differs : (s u : Term) → s ≢ u → same_term s u ≡ false
  differs s u apart = elim (cases_Bool (same_term s u)) [ inl same ↦ absurd (apart (one_term s u same)) | inr not ↦ not ]

  pub forms : FormTable b
  unfolding compared_at same_at
  forms = record {
    disjunction_of_one = λ x. or_is (x ∷ []);
    disjunction = λ xs x. or_is (xs ++ x ∷ []) ∙ fold_last either (truth_of b) (Some false) xs x ∙ ap (λ y. either y (truth_of b x)) (sym (or_is xs));
    conjunction_of_one = λ x. and_is (x ∷ []);
    conjunction = λ xs x. and_is (xs ++ x ∷ []) ∙ fold_last both (truth_of b) (Some true) xs x ∙ ap (λ y. both y (truth_of b x)) (sym (and_is xs));
    negation = λ x. ap truth (value-Not b x) ∙ back (negated (truth_of b x));
    comparison = λ c x y s u p q. ap truth (value-Compare b c x y) ∙ (λ i. truth (compared_at c (p i) (q i))) ∙ back (compared c s u);
    comparison_with_error = λ c x y h. value-Compare b c x y ∙ compared_error c (value b x) (value b y) h;
    same_term_is = λ x y s p q. value-SameTerm b x y ∙ same_value (value b x) (value b y) s s p q ∙ ap (λ t. Some (boolean_term t)) (same_term_own s);
    same_term_is_not = λ x y s u p q apart.
        value-SameTerm b x y ∙ same_value (value b x) (value b y) s u p q ∙ ap (λ t. Some (boolean_term t)) (differs s u apart);
    same_term_with_error = λ x y h. value-SameTerm b x y ∙ same_error (value b x) (value b y) h;
    call = λ f x s p. value-Call b f x ∙ ap (option_and_then (called f)) p;
    call_of_error = λ f x p. value-Call b f x ∙ ap (option_and_then (called f)) p;
    constant = value-Term b;
  }
