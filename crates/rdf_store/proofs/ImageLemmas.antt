-- What a function makes of the members of a set.
use Rattle.std.proofs.Common.{◌≡◌, ℕ, suc, ◌+◌, ◌≤◌, Bool, true, false, cond, not, ◌&&◌, List, [], ◌∷◌, map, length, refl, sym, ap, subst, ◌∙◌, arith, inl, inr}
use mathlib.Core.Bool.{true≢false}
use Rattle.std.specs.declared.cmp.Ordering.{Ordering}
use Rattle.std.specs.Ordering.{eq_by_cmp, is_eq}
use Rattle.std.specs.Cmp.{IsTotalOrder, Equal-is, tied_itself, both_ways}
use Rattle.std.specs.List.{list_any}
use Rattle.std.specs.FinSet as set
use Rattle.std.specs.FinSet.{IsAntisymmetric, same_set, contains-items, contains-empty, contains-insert, contains-remove, contains-union, contains-from_list, contains-retain, len-empty, len-insert}
use Rattle.rdf_terms.specs.Lists.{ListsOnce}
use Rattle.rdf_orders.proofs.CallerLemmas.{both, first_of_both, second_of_both, is_either, either_first, either_second}
use Rattle.rdf_store.specs.Inside.Numbers.{image}

-- a member that the function takes to b
pub record Preimage {A B : Type 0} {R : A → A → Ordering} (f : A → B) (s : set.FinSet R) (b : B) : Type 0 where
  pub at : A
  pub in_set : set.contains s at ≡ true
  pub is : f at ≡ b

not_true : (b : Bool) → (b ≡ true → ⊥) → b ≡ false
not_true true h = absurd (h refl)
not_true false h = refl

true_not : (b : Bool) → b ≡ false → not b ≡ true
true_not true e = absurd (true≢false e)
true_not false e = refl

false_not : (b : Bool) → not b ≡ true → b ≡ true → ⊥
false_not true e h = true≢false (sym e)
false_not false e h = true≢false (sym h)

module _ {K : Type 0} {R : K → K → Ordering} (o : IsTotalOrder R) (apart : IsAntisymmetric R) where
  pub same_of_eq : (a b : K) → eq_by_cmp R a b ≡ true → a ≡ b
  same_of_eq a b e = apart a b ((Equal-is (R a b)).0 e)

  pub eq_of_same : (a b : K) → a ≡ b → eq_by_cmp R a b ≡ true
  eq_of_same a b e = subst (λ x. eq_by_cmp R a x ≡ true) e (ap is_eq (tied_itself o a))

  len_le : (xs : List K) → set.len (set.from_list {R = R} xs) ≤ length xs
  len_le [] = rw len-empty (omega arith)
  len_le (x ∷ xs) = rw (len-insert o (set.from_list xs) x) (at_most (set.contains (set.from_list xs) x) _ _ (len_le xs))
    where
      at_most : (b : Bool) (m n : ℕ) → m ≤ n → cond b m (m + 1) ≤ suc n
      at_most true m n h = omega arith
      at_most false m n h = omega arith

  pub once_tail : (x : K) (xs : List K) → length (x ∷ xs) ≡ set.len (set.from_list {R = R} (x ∷ xs)) → (set.contains (set.from_list {R = R} xs) x ≡ false) × (length xs ≡ set.len (set.from_list {R = R} xs))
  once_tail x xs h = by (set.contains (set.from_list {R = R} xs) x) (set.len (set.from_list {R = R} xs)) (length xs) (len_le xs) (omega arith ∙ h ∙ len-insert o (set.from_list xs) x)
    where
      by : (b : Bool) (m n : ℕ) → m ≤ n → n + 1 ≡ cond b m (m + 1) → (b ≡ false) × (n ≡ m)
      by true m n h e = absurd (omega arith)
      by false m n h e = (refl, omega arith)

  once_head : (x : K) (xs : List K) → set.contains (set.from_list {R = R} xs) x ≡ false → length xs ≡ set.len (set.from_list {R = R} xs) → length (x ∷ xs) ≡ set.len (set.from_list {R = R} (x ∷ xs))
  once_head x xs h d = sym (len-insert o (set.from_list xs) x ∙ rw (h, ← d) (omega arith))

module _ {A B : Type 0} {R : A → A → Ordering} {S : B → B → Ordering} (o : IsTotalOrder R) (apart : IsAntisymmetric R) (p : IsTotalOrder S) (beside : IsAntisymmetric S) where
  abbrev of : (A → B) → set.FinSet R → set.FinSet S
  of f s = image f s

  -- ---- members

  any_in : (f : A → B) (a : A) (xs : List A) → list_any (eq_by_cmp R a) xs ≡ true → list_any (eq_by_cmp S (f a)) (map f xs) ≡ true
  any_in f a [] e = absurd (true≢false (sym e))
  any_in f a (x ∷ xs) e = elim (is_either (eq_by_cmp R a x) (list_any (eq_by_cmp R a) xs) e) [
    | inl same ↦ either_first _ _ (eq_of_same p beside (f a) (f x) (ap f (same_of_eq o apart a x same)))
    | inr more ↦ either_second (eq_by_cmp S (f a) (f x)) _ (any_in f a xs more)
  ]

  pub in_image : (f : A → B) (s : set.FinSet R) (a : A) → set.contains s a ≡ true → set.contains (of f s) (f a) ≡ true
  in_image f s a h = contains-from_list p (map f (set.items s)) (f a) ∙ any_in f a (set.items s) (sym (contains-items s a) ∙ h)

  any_from : (f : A → B) (b : B) (xs : List A) → list_any (eq_by_cmp S b) (map f xs) ≡ true → (a : A) × (list_any (eq_by_cmp R a) xs ≡ true) × (f a ≡ b)
  any_from f b [] e = absurd (true≢false (sym e))
  any_from f b (x ∷ xs) e = elim (is_either (eq_by_cmp S b (f x)) (list_any (eq_by_cmp S b) (map f xs)) e) [
    | inl same ↦ (x, (either_first _ _ (eq_of_same o apart x x refl)), sym (same_of_eq p beside b (f x) same))
    | inr more ↦ let r = any_from f b xs more in (r.0, either_second (eq_by_cmp R r.0 x) _ r.1, r.2)
  ]

  pub from_image : (f : A → B) (s : set.FinSet R) (b : B) → set.contains (of f s) b ≡ true → Preimage f s b
  from_image f s b h =
      let r = any_from f b (set.items s) (sym (contains-from_list p (map f (set.items s)) b) ∙ h) in
      record { at = r.0; in_set = contains-items s r.0 ∙ r.1; is = r.2 }

  pub image_is : (f : A → B) (s : set.FinSet R) (t : set.FinSet S) → ((a : A) → set.contains s a ≡ true → set.contains t (f a) ≡ true)
      → ((b : B) → set.contains t b ≡ true → Preimage f s b) → of f s ≡ t
  image_is f s t to from = same_set p beside _ _ (λ b. both_ways _ _
      (λ h. let i = from_image f s b h in subst (λ x. set.contains t x ≡ true) i.is (to i.at i.in_set))
      (λ h. let i = from b h in subst (λ x. set.contains (of f s) x ≡ true) i.is (in_image f s i.at i.in_set)))

  -- ---- whatever the function

  pub image-empty : (f : A → B) → of f set.empty ≡ set.empty
  image-empty f = image_is f set.empty set.empty
      (λ a h. absurd (true≢false (sym h ∙ contains-empty R a)))
      (λ b h. absurd (true≢false (sym h ∙ contains-empty S b)))

  pub image-insert : (f : A → B) (s : set.FinSet R) (a : A) → of f (set.insert s a) ≡ set.insert (of f s) (f a)
  image-insert f s a = image_is f (set.insert s a) (set.insert (of f s) (f a))
      (λ x h. contains-insert p (of f s) (f a) (f x) ∙ elim (is_either (eq_by_cmp R x a) (set.contains s x) (sym (contains-insert o s a x) ∙ h)) [
        | inl same ↦ either_first _ _ (eq_of_same p beside (f x) (f a) (ap f (same_of_eq o apart x a same)))
        | inr more ↦ either_second (eq_by_cmp S (f x) (f a)) _ (in_image f s x more)
      ])
      (λ b h. elim (is_either (eq_by_cmp S b (f a)) (set.contains (of f s) b) (sym (contains-insert p (of f s) (f a) b) ∙ h)) [
        | inl same ↦ record { at = a; in_set = contains-insert o s a a ∙ either_first _ _ (eq_of_same o apart a a refl); is = sym (same_of_eq p beside b (f a) same) }
        | inr more ↦ let i = from_image f s b more in record { at = i.at; in_set = contains-insert o s a i.at ∙ either_second (eq_by_cmp R i.at a) _ i.in_set; is = i.is }
      ])

  pub image-from_list : (f : A → B) (xs : List A) → of f (set.from_list xs) ≡ set.from_list (map f xs)
  image-from_list f [] = image-empty f
  image-from_list f (x ∷ xs) = image-insert f (set.from_list xs) x ∙ ap (λ s. set.insert s (f x)) (image-from_list f xs)

  pub image-union : (f : A → B) (s t : set.FinSet R) → of f (set.union s t) ≡ set.union (of f s) (of f t)
  image-union f s t = image_is f (set.union s t) (set.union (of f s) (of f t))
      (λ x h. contains-union p (of f s) (of f t) (f x) ∙ elim (is_either (set.contains s x) (set.contains t x) (sym (contains-union o s t x) ∙ h)) [
        | inl one ↦ either_first _ _ (in_image f s x one)
        | inr other ↦ either_second (set.contains (of f s) (f x)) _ (in_image f t x other)
      ])
      (λ b h. elim (is_either (set.contains (of f s) b) (set.contains (of f t) b) (sym (contains-union p (of f s) (of f t) b) ∙ h)) [
        | inl one ↦ let i = from_image f s b one in record { at = i.at; in_set = contains-union o s t i.at ∙ either_first _ _ i.in_set; is = i.is }
        | inr other ↦ let i = from_image f t b other in record { at = i.at; in_set = contains-union o s t i.at ∙ either_second (set.contains s i.at) _ i.in_set; is = i.is }
      ])

  pub image-retain : (f : A → B) (s : set.FinSet R) (k : A → Bool) (l : B → Bool) → ((x : A) → set.contains s x ≡ true → k x ≡ l (f x)) → of f (set.retain s k) ≡ set.retain (of f s) l
  image-retain f s k l same = image_is f (set.retain s k) (set.retain (of f s) l)
      (λ x h. let i = sym (kept_at x) ∙ h in kept_of (f x) ∙ both (in_image f s x (first_of_both _ _ i)) (sym (same x (first_of_both _ _ i)) ∙ second_of_both (set.contains s x) _ i))
      (λ b h. let j = sym (kept_of b) ∙ h in let i = from_image f s b (first_of_both _ _ j) in
      record { at = i.at; in_set = kept_at i.at ∙ both i.in_set (same i.at i.in_set ∙ ap l i.is ∙ second_of_both (set.contains (of f s) b) _ j); is = i.is })
    where
      kept_at : (x : A) → set.contains (set.retain s k) x ≡ (set.contains s x && k x)
      kept_at x = contains-retain s k x (λ y e. ap k (sym (apart x y e)))

      kept_of : (b : B) → set.contains (set.retain (of f s) l) b ≡ (set.contains (of f s) b && l b)
      kept_of b = contains-retain (of f s) l b (λ y e. ap l (sym (beside b y e)))

  -- two functions that do the same to each member
  pub image-same : (f g : A → B) (s : set.FinSet R) → ((x : A) → set.contains s x ≡ true → f x ≡ g x) → of f s ≡ of g s
  image-same f g s same = image_is f s (of g s)
      (λ x h. ap (set.contains (of g s)) (same x h) ∙ in_image g s x h)
      (λ b h. let i = from_image g s b h in record { at = i.at; in_set = i.in_set; is = same i.at i.in_set ∙ i.is })

  pub image-lacks : (f : A → B) (s : set.FinSet R) (b : B) → ((x : A) → set.contains s x ≡ true → f x ≡ b → ⊥) → set.contains (of f s) b ≡ false
  image-lacks f s b none = not_true _ (λ h. let i = from_image f s b h in none i.at i.in_set i.is)

  -- ---- where it keeps members apart

  -- no member but a itself goes where a goes
  abbrev pub IsAlone : (A → B) → set.FinSet R → A → Type 0
  IsAlone f s a = (x : A) → set.contains s x ≡ true → f x ≡ f a → x ≡ a

  pub image-contains : (f : A → B) (s : set.FinSet R) (a : A) → IsAlone f s a → set.contains (of f s) (f a) ≡ set.contains s a
  image-contains f s a alone = both_ways _ _
      (λ h. let i = from_image f s (f a) h in subst (λ x. set.contains s x ≡ true) (alone i.at i.in_set i.is) i.in_set)
      (in_image f s a)

  pub image-remove : (f : A → B) (s : set.FinSet R) (a : A) → IsAlone f s a → of f (set.remove s a) ≡ set.remove (of f s) (f a)
  image-remove f s a alone = image_is f (set.remove s a) (set.remove (of f s) (f a))
      (λ x h. let i = sym (contains-remove o s a x) ∙ h in let held = second_of_both (not (eq_by_cmp R x a)) _ i in
      contains-remove p (of f s) (f a) (f x) ∙ both (true_not _ (not_true _ (λ e. false_not _ (first_of_both _ _ i) (eq_of_same o apart x a (alone x held (same_of_eq p beside (f x) (f a) e)))))) (in_image f s x held))
      (λ b h. let j = sym (contains-remove p (of f s) (f a) b) ∙ h in let i = from_image f s b (second_of_both (not (eq_by_cmp S b (f a))) _ j) in
      record {
        at = i.at;
        in_set = contains-remove o s a i.at ∙ both (true_not _ (not_true _ (λ e. false_not _ (first_of_both _ _ j) (eq_of_same p beside b (f a) (sym i.is ∙ ap f (same_of_eq o apart i.at a e)))))) i.in_set;
        is = i.is;
      })

  once_apart : (f : A → B) (xs : List A) → ((a : A) → set.contains (set.from_list {R = R} xs) a ≡ true → IsAlone f (set.from_list xs) a)
      → length xs ≡ set.len (set.from_list {R = R} xs) → length (map f xs) ≡ set.len (set.from_list {R = S} (map f xs))
  once_apart f [] alone once = sym (len-empty S)
  once_apart f (x ∷ xs) alone once =
      let t = once_tail o apart x xs once in
      let more = λ (y : A) (h : set.contains (set.from_list {R = R} xs) y ≡ true). contains-insert o (set.from_list xs) x y ∙ either_second (eq_by_cmp R y x) _ h in
      let first = contains-insert o (set.from_list xs) x x ∙ either_first _ _ (eq_of_same o apart x x refl) in
      once_head p beside (f x) (map f xs)
      (ap (λ s. set.contains s (f x)) (sym (image-from_list f xs)) ∙ image-contains f (set.from_list xs) x (λ y h. alone x first y (more y h)) ∙ t.0)
      (once_apart f xs (λ a h y g. alone a (more a h) y (more y g)) t.1)

  -- a list of the members gives one of theirs
  pub image_listed : (f : A → B) (s : set.FinSet R) (xs : List A) → ((a : A) → set.contains s a ≡ true → IsAlone f s a) → ListsOnce s xs → ListsOnce (of f s) (map f xs)
  image_listed f s xs alone l =
      let all = sym (image-from_list f xs) ∙ ap (of f) l.all in
      record {
        all = all;
        once = once_apart f xs (subst (λ z. (a : A) → set.contains z a ≡ true → IsAlone f z a) (sym l.all) alone) (l.once ∙ ap set.len (sym l.all)) ∙ ap set.len all;
      }
