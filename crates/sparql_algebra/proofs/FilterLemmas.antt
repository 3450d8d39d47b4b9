-- Conditions: none, one behind another, and over two lists.
use Rattle.std.proofs.Common.{◌≡◌, Bool, true, false, cond, ◌&&◌, List, [], ◌∷◌, ◌++◌, filter, refl, sym, ap, ◌∙◌}
use Rattle.std.specs.List.{list_all}
use Rattle.sparql_trees.specs.declared.expression.Expression.{Expression}
use Rattle.sparql_values.specs.Mapping.{Variables, Mapping, value_of}
use Rattle.sparql_values.specs.Values.{is_satisfied}
use Rattle.sparql_algebra.specs.Solutions.{satisfies}
use Rattle.sparql_algebra.proofs.TruthLemmas.{and_assoc}

module _ {X : Type 0} where
  pub filter_always : (xs : List X) → filter (λ (_ : X). true) xs ≡ xs
  filter_always [] = refl
  filter_always (x ∷ xs) = ap (λ l. x ∷ l) (filter_always xs)

  pub filter-cong : (p q : X → Bool) → ((x : X) → p x ≡ q x) → (xs : List X) → filter p xs ≡ filter q xs
  filter-cong p q e [] = refl
  filter-cong p q e (x ∷ xs) =
      ap (λ b. cond b (x ∷ filter p xs) (filter p xs)) (e x) ∙ ap (λ l. cond (q x) (x ∷ l) l) (filter-cong p q e xs)

  pub filter-filter : (p q : X → Bool) (xs : List X) → filter q (filter p xs) ≡ filter (λ x. p x && q x) xs
  filter-filter p q [] = refl
  filter-filter p q (x ∷ xs) = by_test (p x) (filter-filter p q xs)
    where
      by_test : (b : Bool) → filter q (filter p xs) ≡ filter (λ y. p y && q y) xs →
          filter q (cond b (x ∷ filter p xs) (filter p xs)) ≡ cond (b && q x) (x ∷ filter (λ y. p y && q y) xs) (filter (λ y. p y && q y) xs)
      by_test true h = ap (λ l. cond (q x) (x ∷ l) l) h
      by_test false h = h

  pub filter-append : (p : X → Bool) (xs ys : List X) → filter p (xs ++ ys) ≡ filter p xs ++ filter p ys
  filter-append p [] ys = refl
  filter-append p (x ∷ xs) ys = by_test (p x) (filter-append p xs ys)
    where
      by_test : (b : Bool) → filter p (xs ++ ys) ≡ filter p xs ++ filter p ys →
          cond b (x ∷ filter p (xs ++ ys)) (filter p (xs ++ ys)) ≡ cond b (x ∷ filter p xs) (filter p xs) ++ filter p ys
      by_test true h = ap (λ l. x ∷ l) h
      by_test false h = h

  all_of_both : (p : X → Bool) (xs ys : List X) → list_all p (xs ++ ys) ≡ (list_all p xs && list_all p ys)
  all_of_both p [] ys = refl
  all_of_both p (x ∷ xs) ys = ap (λ b. p x && b) (all_of_both p xs ys) ∙ sym (and_assoc (p x) (list_all p xs) (list_all p ys))

-- the expressions of a condition asked in two parts
pub filter_twice : (variables : Variables) (F G : List Expression) (xs : List Mapping) →
    filter (satisfies variables (F ++ G)) xs ≡ filter (satisfies variables G) (filter (satisfies variables F) xs)
filter_twice variables F G xs =
    filter-cong (satisfies variables (F ++ G)) (λ m. satisfies variables F m && satisfies variables G m)
    (λ m. all_of_both (is_satisfied (value_of variables m)) F G) xs
    ∙ sym (filter-filter (satisfies variables F) (satisfies variables G) xs)
