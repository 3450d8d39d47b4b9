-- Sets, the lists of their members, and search trees of them.
use Rattle.std.proofs.Common.{◌≡◌, Bool, true, false, cond, not, ◌&&◌, ◌||◌, List, [], ◌∷◌, ◌++◌, length, refl, sym, ap, ◌∙◌, arith}
use Rattle.std.specs.declared.cmp.Ordering.{Ordering}
use Rattle.std.specs.declared.cmp.Ordering.TheVariants.{Less, Equal, Greater}
use Rattle.std.specs.Ordering.{eq_by_cmp, is_eq, ordering_reverse}
use Rattle.std.specs.Cmp.{IsTotalOrder}
use Rattle.std.specs.List.{AllByRecursion, list_any}
use Rattle.std.specs.List.Sorted.{IsStrictlySortedBy}
use Rattle.std.proofs.lemmas.List.Folds.{list_any-append}
use Rattle.std.specs.FinSet as set
use Rattle.std.specs.FinSet.{IsAntisymmetric, same_set, from_list_push, contains-from_list, contains-insert, contains-remove, contains-union, contains-difference, contains-empty, len-empty, len-insert}
use Rattle.rdf_orders.specs.Contents.{IsDisjoint}
use Rattle.rdf_terms.specs.Lists.{ListsSorted}
use Rattle.rdf_orders.proofs.TestLemmas.{or_of_cond, and_of_cond}

or_false : (a : Bool) → (a || false) ≡ a
or_false true = refl
or_false false = refl

and_not_false : (a : Bool) → (a && not false) ≡ a
and_not_false true = refl
and_not_false false = refl

or_swap : (a b c : Bool) → (a || (b || c)) ≡ (b || (a || c))
or_swap true true c = refl
or_swap true false c = refl
or_swap false b c = refl

but_neither : (a b c : Bool) → (a && not (b || c)) ≡ (not b && (a && not c))
but_neither true true c = refl
but_neither true false c = refl
but_neither false true c = refl
but_neither false false c = refl

-- what was in and is none of those that came stays, and what came goes
back_again : (s a b : Bool) → (s ≡ true → (a || b) ≡ true → ⊥) → ((s || a) && not (a || b)) ≡ s
back_again true true b h = absurd (h refl refl)
back_again true false true h = absurd (h refl refl)
back_again true false false h = refl
back_again false true b h = refl
back_again false false b h = refl

same_reversed : (r : Ordering) → is_eq (ordering_reverse r) ≡ is_eq r
same_reversed Less = refl
same_reversed Equal = refl
same_reversed Greater = refl

module _ {K : Type 0} {R : K → K → Ordering} (o : IsTotalOrder R) (apart : IsAntisymmetric R) where
  abbrev of : List K → set.FinSet R
  of xs = set.from_list xs

  pub contains_joined : (xs ys : List K) (q : K) → set.contains (of (xs ++ ys)) q ≡ (set.contains (of xs) q || set.contains (of ys) q)
  contains_joined xs ys q =
      contains-from_list o (xs ++ ys) q ∙ list_any-append (eq_by_cmp R q) xs ys
      ∙ (λ i. sym (contains-from_list o xs q) i || sym (contains-from_list o ys q) i)

  pub joined : (xs ys : List K) → of (xs ++ ys) ≡ set.union (of xs) (of ys)
  joined xs ys = same_set o apart _ _ (λ q. contains_joined xs ys q ∙ sym (contains-union o (of xs) (of ys) q))

  pub union_none : (s : set.FinSet R) → set.union s (of []) ≡ s
  union_none s = same_set o apart _ _ (λ q. contains-union o s (of []) q ∙ ap (λ b. set.contains s q || b) (contains-empty R q) ∙ or_false (set.contains s q))

  pub difference_none : (s : set.FinSet R) → set.difference s (of []) ≡ s
  difference_none s = same_set o apart _ _ (λ q. contains-difference o s (of []) q ∙ ap (λ b. set.contains s q && not b) (contains-empty R q) ∙ and_not_false (set.contains s q))

  pub union_push : (s : set.FinSet R) (xs : List K) (x : K) → set.union s (of (xs ++ x ∷ [])) ≡ set.insert (set.union s (of xs)) x
  union_push s xs x = same_set o apart _ _ (λ q.
      contains-union o s (of (xs ++ x ∷ [])) q
      ∙ ap (λ b. set.contains s q || b) (ap (λ t. set.contains t q) (from_list_push o apart xs x) ∙ contains-insert o (of xs) x q)
      ∙ or_swap (set.contains s q) (eq_by_cmp R q x) (set.contains (of xs) q)
      ∙ ap (λ b. eq_by_cmp R q x || b) (sym (contains-union o s (of xs) q))
      ∙ sym (contains-insert o (set.union s (of xs)) x q))

  pub difference_push : (s : set.FinSet R) (xs : List K) (x : K) → set.difference s (of (xs ++ x ∷ [])) ≡ set.remove (set.difference s (of xs)) x
  difference_push s xs x = same_set o apart _ _ (λ q.
      contains-difference o s (of (xs ++ x ∷ [])) q
      ∙ ap (λ b. set.contains s q && not b) (ap (λ t. set.contains t q) (from_list_push o apart xs x) ∙ contains-insert o (of xs) x q)
      ∙ but_neither (set.contains s q) (eq_by_cmp R q x) (set.contains (of xs) q)
      ∙ ap (λ b. not (eq_by_cmp R q x) && b) (sym (contains-difference o s (of xs) q))
      ∙ sym (contains-remove o (set.difference s (of xs)) x q))

  -- some of what is to come came in, and all of it is taken out
  pub taken_back : (s : set.FinSet R) (xs ys : List K) → IsDisjoint s (of (xs ++ ys)) → set.difference (set.union s (of xs)) (of (xs ++ ys)) ≡ s
  taken_back s xs ys none = same_set o apart _ _ (λ q.
      contains-difference o (set.union s (of xs)) (of (xs ++ ys)) q
      ∙ (λ i. contains-union o s (of xs) q i && not (contains_joined xs ys q i))
      ∙ back_again (set.contains s q) (set.contains (of xs) q) (set.contains (of ys) q) (λ e f. none q e (contains_joined xs ys q ∙ f)))

  -- ---- rising lists

  none_above : (x : K) (ys : List K) → AllByRecursion (λ y. R x y ≡ Less) ys → list_any (eq_by_cmp R x) ys ≡ false
  none_above x [] a = refl
  none_above x (y ∷ ys) a = (λ i. is_eq (a.0 i) || none_above x ys a.1 i)

  rising_head : (x : K) (xs : List K) → IsStrictlySortedBy R (x ∷ xs) → AllByRecursion (λ y. R x y ≡ Less) xs
  unfolding IsStrictlySortedBy
  rising_head x xs s = s.0

  rising_tail : (x : K) (xs : List K) → IsStrictlySortedBy R (x ∷ xs) → IsStrictlySortedBy R xs
  unfolding IsStrictlySortedBy
  rising_tail x xs s = s.1

  as_many : (xs : List K) → IsStrictlySortedBy R xs → length xs ≡ set.len (of xs)
  as_many [] s = sym (len-empty R)
  as_many (x ∷ xs) s =
      let out = contains-from_list o xs x ∙ none_above x xs (rising_head x xs s) in
      let rest = as_many xs (rising_tail x xs s) in
      sym (len-insert o (of xs) x ∙ rw (out, ← rest) (omega arith))

  -- a rising list lists the set of its items
  pub lists_sorted : (xs : List K) → IsStrictlySortedBy R xs → ListsSorted (of xs) xs
  lists_sorted xs s = record { lists = record { all = refl; once = as_many xs s }; rises = s }

  -- ---- search trees

  abbrev finds : K → List K → Bool
  finds x keys = list_any (eq_by_cmp R x) keys

  pub tie_turned : (x q : K) → eq_by_cmp R x q ≡ eq_by_cmp R q x
  tie_turned x q = ap is_eq (o.antisymm x q) ∙ same_reversed (R q x)

  pub tree_has : (keys : List K) (x : K) → finds x keys ≡ set.contains (of keys) x
  tree_has keys x = sym (contains-from_list o keys x)

  pub tree_insert : (old new : List K) (x : K) → ((q : K) → finds q new ≡ cond (eq_by_cmp R x q) true (finds q old)) → of new ≡ set.insert (of old) x
  tree_insert old new x u = same_set o apart _ _ (λ q.
      sym (tree_has new q) ∙ u q ∙ or_of_cond (eq_by_cmp R x q) (finds q old)
      ∙ (λ i. tie_turned x q i || tree_has old q i) ∙ sym (contains-insert o (of old) x q))

  pub tree_remove : (old new : List K) (x : K) → ((q : K) → finds q new ≡ cond (eq_by_cmp R x q) false (finds q old)) → of new ≡ set.remove (of old) x
  tree_remove old new x u = same_set o apart _ _ (λ q.
      sym (tree_has new q) ∙ u q ∙ and_of_cond (eq_by_cmp R x q) (finds q old)
      ∙ (λ i. not (tie_turned x q i) && tree_has old q i) ∙ sym (contains-remove o (of old) x q))
