-- Strictly rising lists and the sets of their items.
use Rattle.std.proofs.Common.{◌≡◌, ◌∙◌, ap, refl, sym, subst, inl, inr, ℕ, suc, ◌+◌, ◌≤◌, arith, Bool, true, false, cond, ◌||◌, true≢false, List, [], ◌∷◌, length}
use Rattle.std.specs.Prelude.{IsPermutation, IsSorted}
use Rattle.std.specs.List.{list_any, AllByRecursion}
use Rattle.std.specs.List.Sorted.{IsStrictlySortedBy}
use Rattle.std.specs.declared.cmp.Ordering.{Ordering}
use Rattle.std.specs.declared.cmp.Ordering.TheVariants.{Less, Equal, Greater}
use Rattle.std.specs.Ordering.{eq_by_cmp, is_eq, is_gt, ordering_reverse}
use Rattle.std.specs.Cmp.{IsTotalOrder, Equal-is, tied_itself}
use Rattle.std.specs.FinSet as set
use Rattle.std.specs.FinSet.{contains, from_list, IsAntisymmetric, same_set, contains-from_list, len-empty, len-insert}
use Rattle.std.proofs.lemmas.Bool.{cases_Bool, or_cases, or_parts}
use Rattle.std.proofs.lemmas.List.Sorted.{length_permutation, list_any-IsPermutation}
use Rattle.rdf_terms.specs.Lists.{ListsOnce, ListsSorted}
use Rattle.rdf_lines.proofs.SortLemmas.{Rises, rises}

or_right : (a : Bool) → (a || true) ≡ true
or_right true = refl
or_right false = refl

or_cond : (b : Bool) (m n : ℕ) → m ≤ n → cond b m (m + 1) ≤ suc n
or_cond true m n h = omega arith
or_cond false m n h = omega arith

at_most_cond : (b : Bool) (m n : ℕ) → m ≤ n → n + 1 ≡ cond b m (m + 1) → (b ≡ false) × (n ≡ m)
at_most_cond true m n h e = absurd (omega arith)
at_most_cond false m n h e = (refl, omega arith)

only_less : (a : Ordering) → is_gt a ≡ false → is_eq a ≡ false → a ≡ Less
only_less Less h k = refl
only_less Equal h k = absurd (true≢false k)
only_less Greater h k = absurd (true≢false h)

not_both_less : (a b : Ordering) → a ≡ ordering_reverse b → a ≡ Less → b ≡ Less → ⊥
not_both_less a b e h k = let f : Less ≡ ordering_reverse Less = sym h ∙ e ∙ ap ordering_reverse k in absurd cc

module _ {K : Type 0} {R : K → K → Ordering} (o : IsTotalOrder R) (apart : IsAntisymmetric R) where
  abbrev pub has : K → List K → Bool
  has q xs = list_any (eq_by_cmp R q) xs

  pub has_of : (xs : List K) (q : K) → contains (from_list {R = R} xs) q ≡ has q xs
  has_of xs q = contains-from_list o xs q

  tie : (q x : K) → eq_by_cmp R q x ≡ true → q ≡ x
  tie q x e = apart q x ((Equal-is (R q x)).0 e)

  tie_itself : (x : K) → eq_by_cmp R x x ≡ true
  tie_itself x = ap is_eq (tied_itself o x)

  -- ---- a fact of each member

  has_fact : (P : K → Type 0) (xs : List K) (q : K) → AllByRecursion P xs → has q xs ≡ true → P q
  has_fact P [] q a h = absurd (true≢false (sym h))
  has_fact P (x ∷ xs) q a h = elim (or_cases (eq_by_cmp R q x) (has q xs) h) [
    | inl e ↦ subst P (sym (tie q x e)) a.0
    | inr m ↦ has_fact P xs q a.1 m
  ]

  pub member_fact : (P : K → Type 0) (xs : List K) (q : K) → AllByRecursion P xs → contains (from_list {R = R} xs) q ≡ true → P q
  member_fact P xs q a h = has_fact P xs q a (sym (has_of xs q) ∙ h)

  each_had : (P : K → Type 0) (xs : List K) → ((q : K) → has q xs ≡ true → P q) → AllByRecursion P xs
  each_had P [] f = tt
  each_had P (x ∷ xs) f = (f x (ap (λ b. b || has x xs) (tie_itself x)), each_had P xs (λ q m. f q (ap (λ b. eq_by_cmp R q x || b) m ∙ or_right (eq_by_cmp R q x))))

  pub each_member : (P : K → Type 0) (xs : List K) → ((q : K) → contains (from_list {R = R} xs) q ≡ true → P q) → AllByRecursion P xs
  each_member P xs f = each_had P xs (λ q m. f q (has_of xs q ∙ m))

  -- ---- strictly rising lists

  pub rising_head : (x : K) (xs : List K) → IsStrictlySortedBy R (x ∷ xs) → AllByRecursion (λ y. R x y ≡ Less) xs
  unfolding IsStrictlySortedBy
  rising_head x xs s = s.0

  pub rising_tail : (x : K) (xs : List K) → IsStrictlySortedBy R (x ∷ xs) → IsStrictlySortedBy R xs
  unfolding IsStrictlySortedBy
  rising_tail x xs s = s.1

  pub rising_cons : (x : K) (xs : List K) → AllByRecursion (λ y. R x y ≡ Less) xs → IsStrictlySortedBy R xs → IsStrictlySortedBy R (x ∷ xs)
  unfolding IsStrictlySortedBy
  rising_cons x xs b s = (b, s)

  pub rising_nil : IsStrictlySortedBy R []
  unfolding IsStrictlySortedBy
  rising_nil = tt

  none_above : (x : K) (xs : List K) → AllByRecursion (λ y. R x y ≡ Less) xs → has x xs ≡ false
  none_above x [] a = refl
  none_above x (y ∷ ys) a = ap (λ r. is_eq r || has x ys) a.0 ∙ none_above x ys a.1

  as_many : (xs : List K) → IsStrictlySortedBy R xs → length xs ≡ set.len (from_list {R = R} xs)
  as_many [] s = sym (len-empty R)
  as_many (x ∷ xs) s =
      let out = has_of xs x ∙ none_above x xs (rising_head x xs s) in
      let ih = as_many xs (rising_tail x xs s) in
      sym (len-insert o (from_list xs) x ∙ rw (out, ← ih) (omega arith))

  pub lists_sorted : (xs : List K) → IsStrictlySortedBy R xs → ListsSorted (from_list {R = R} xs) xs
  lists_sorted xs s = record { lists = record { all = refl; once = as_many xs s }; rises = s }

  -- ---- one list for each set

  same_first : (x y : K) (xs ys : List K) → has x (y ∷ ys) ≡ true → has y (x ∷ xs) ≡ true → AllByRecursion (λ z. R x z ≡ Less) xs → AllByRecursion (λ z. R y z ≡ Less) ys → x ≡ y
  same_first x y xs ys h k a b = elim (or_cases (eq_by_cmp R x y) (has x ys) h) [
    | inl e ↦ tie x y e
    | inr m ↦ elim (or_cases (eq_by_cmp R y x) (has y xs) k) [
      | inl e ↦ sym (tie y x e)
      | inr n ↦ absurd (not_both_less (R x y) (R y x) (o.antisymm x y) (has_fact (λ z. R x z ≡ Less) xs y a n) (has_fact (λ z. R y z ≡ Less) ys x b m))
    ]
  ]

  pub same_list : (xs ys : List K) → IsStrictlySortedBy R xs → IsStrictlySortedBy R ys → ((q : K) → has q xs ≡ has q ys) → xs ≡ ys
  same_list [] [] s t h = refl
  same_list [] (y ∷ ys) s t h = absurd (true≢false (sym (ap (λ b. b || has y ys) (tie_itself y)) ∙ sym (h y)))
  same_list (x ∷ xs) [] s t h = absurd (true≢false (sym (ap (λ b. b || has x xs) (tie_itself x)) ∙ h x))
  same_list (x ∷ xs) (y ∷ ys) s t h =
      let a = rising_head x xs s in
      let b = rising_head y ys t in
      let first : x ≡ y = same_first x y xs ys (sym (h x) ∙ ap (λ b. b || has x xs) (tie_itself x)) (h y ∙ ap (λ b. b || has y ys) (tie_itself y)) a b in
      let others = same_list xs ys (rising_tail x xs s) (rising_tail y ys t) (λ q. by q first a b (eq_by_cmp R q x) refl (h q)) in
      λ i. first i ∷ others i
    where
      by : (q : K) → x ≡ y → AllByRecursion (λ z. R x z ≡ Less) xs → AllByRecursion (λ z. R y z ≡ Less) ys → (v : Bool) → eq_by_cmp R q x ≡ v → (eq_by_cmp R q x || has q xs) ≡ (eq_by_cmp R q y || has q ys) → has q xs ≡ has q ys
      by q e a b true is same =
          let one : q ≡ x = tie q x is in
          ap (λ z. has z xs) one ∙ none_above x xs a ∙ sym (ap (λ z. has z ys) (one ∙ e) ∙ none_above y ys b)
      by q e a b false is same =
          sym (ap (λ v. v || has q xs) is) ∙ same ∙ ap (λ z. eq_by_cmp R q z || has q ys) (sym e) ∙ ap (λ v. v || has q ys) is

  pub one_list : (members : set.FinSet R) (xs ys : List K) → ListsSorted members xs → ListsSorted members ys → xs ≡ ys
  one_list members xs ys l m =
      same_list xs ys l.rises m.rises (λ q. sym (has_of xs q) ∙ ap (λ s. contains s q) (l.lists.all ∙ sym m.lists.all) ∙ has_of ys q)

  -- ---- a list without repeats, brought in order

  len_le : (xs : List K) → set.len (from_list {R = R} xs) ≤ length xs
  len_le [] = rw len-empty (omega arith)
  len_le (x ∷ xs) = rw (len-insert o (from_list xs) x) (or_cond (contains (from_list xs) x) _ _ (len_le xs))

  once_tail : (x : K) (xs : List K) → length (x ∷ xs) ≡ set.len (from_list {R = R} (x ∷ xs)) → (contains (from_list {R = R} xs) x ≡ false) × (length xs ≡ set.len (from_list {R = R} xs))
  once_tail x xs h = at_most_cond (contains (from_list {R = R} xs) x) (set.len (from_list {R = R} xs)) (length xs) (len_le xs) (omega arith ∙ h ∙ len-insert o (from_list xs) x)

  strictly : (x : K) (ys : List K) → AllByRecursion (λ y. is_gt (R x y) ≡ false) ys → has x ys ≡ false → AllByRecursion (λ y. R x y ≡ Less) ys
  strictly x [] a h = tt
  strictly x (y ∷ ys) a h =
      let parts = or_parts (eq_by_cmp R x y) (has x ys) h in
      (only_less (R x y) a.0 parts.0, strictly x ys a.1 parts.1)

  once_rises : (xs : List K) → length xs ≡ set.len (from_list {R = R} xs) → Rises R o apart xs → IsStrictlySortedBy R xs
  once_rises [] d s = rising_nil
  once_rises (x ∷ xs) d s =
      let t = once_tail x xs d in
      rising_cons x xs (strictly x xs s.0 (sym (has_of xs x) ∙ t.0)) (once_rises xs t.1 s.1)

  pub listed_in_order : (xs ys : List K) → length xs ≡ set.len (from_list {R = R} xs) → IsPermutation xs ys → IsSorted R ys → ListsSorted (from_list {R = R} xs) ys
  listed_in_order xs ys once p s =
      let e : from_list {R = R} ys ≡ from_list xs = same_set o apart _ _ (λ q. has_of ys q ∙ sym (list_any-IsPermutation (eq_by_cmp R q) xs ys p) ∙ sym (has_of xs q)) in
      let many : length ys ≡ set.len (from_list {R = R} xs) = length_permutation xs ys p ∙ once in
      record { lists = record { all = e; once = many }; rises = once_rises ys (many ∙ ap set.len (sym e)) (rises R o apart ys s) }
