-- A set has one sorted topic.
use Rattle.std.proofs.Common.{◌≡◌, Bool, true, false, ◌||◌, List, [], ◌∷◌, refl, sym, ap, ◌∙◌, subst}
use mathlib.Core.Bool.{true≢false}
use Rattle.std.specs.declared.cmp.Ordering.{Ordering}
use Rattle.std.specs.declared.cmp.Ordering.TheVariants.{Less, Equal, Greater}
use Rattle.std.specs.Cmp.{IsTotalOrder}
use Rattle.std.proofs.lemmas.Cmp.{tied_itself}
use Rattle.std.specs.FinSet as set
use Rattle.std.specs.FinSet.{IsAntisymmetric, contains, contains-from_list}
use Rattle.std.specs.List.{AllByRecursion, list_any}
use Rattle.std.specs.List.Sorted.{IsStrictlySortedBy}
use Rattle.std.specs.Ordering.{eq_by_cmp, is_eq, ordering_reverse}
use Rattle.rdf_dataset.specs.Sorted.{ListsSorted}

module _ {K : Type 0} {R : K → K → Ordering} (o : IsTotalOrder R) (apart : IsAntisymmetric R) where
  abbrev has : List K → K → Bool
  has xs q = list_any (eq_by_cmp R q) xs

  equal_is : (r : Ordering) → is_eq r ≡ true → r ≡ Equal
  equal_is Less e = absurd (true≢false (sym e))
  equal_is Equal e = refl
  equal_is Greater e = absurd (true≢false (sym e))

  same : (q x : K) → eq_by_cmp R q x ≡ true → q ≡ x
  same q x e = apart q x (equal_is (R q x) e)

  tied : (x : K) → eq_by_cmp R x x ≡ true
  tied x = ap is_eq (tied_itself o x)

  -- neither of two is less than the other and the other less than it
  not_both : {A : Type 0} (x y : K) → R x y ≡ Less → R y x ≡ Less → A
  not_both x y p q = absurd (differ (sym p ∙ o.antisymm x y ∙ ap ordering_reverse q))
    where
      differ : Less ≡ Greater → ⊥
      differ e = cc

  -- what is less than each element isn't among them
  less_than_all : (x : K) (ys : List K) → AllByRecursion (λ y. R x y ≡ Less) ys → has ys x ≡ false
  less_than_all x [] a = refl
  less_than_all x (y ∷ ys) a = rw a.0 (less_than_all x ys a.1)

  -- an element is greater than what is less than each
  greater_of : (x q : K) (ys : List K) → AllByRecursion (λ y. R x y ≡ Less) ys → has ys q ≡ true → R x q ≡ Less
  greater_of x q [] a h = absurd (true≢false (sym h))
  greater_of x q (y ∷ ys) a h =
      elim (eq_by_cmp R q y) as (λ b. eq_by_cmp R q y ≡ b → (b || has ys q) ≡ true → R x q ≡ Less) [
        | true ↦ λ e h. ap (R x) (same q y e) ∙ a.0
        | false ↦ λ e h. greater_of x q ys a.1 h
      ] refl h

  -- the first elements are the same
  heads : (x y : K) (xs ys : List K) → AllByRecursion (λ z. R x z ≡ Less) xs → AllByRecursion (λ z. R y z ≡ Less) ys → has (y ∷ ys) x ≡ true → has (x ∷ xs) y ≡ true → x ≡ y
  heads x y xs ys a b h k =
      elim (eq_by_cmp R x y) as (λ v. eq_by_cmp R x y ≡ v → (v || has ys x) ≡ true → x ≡ y) [
        | true ↦ λ e h. same x y e
        | false ↦ λ e h. elim (eq_by_cmp R y x) as (λ v. eq_by_cmp R y x ≡ v → (v || has xs y) ≡ true → x ≡ y) [
          | true ↦ λ f k. sym (same y x f)
          | false ↦ λ f k. not_both x y (greater_of x y xs a k) (greater_of y x ys b h)
        ] refl k
      ] refl h

  or_tied : (a b : Bool) → a ≡ true → (a || b) ≡ true
  or_tied true b e = refl
  or_tied false b e = absurd (true≢false (sym e))

  -- the elements after the first
  tails : (x : K) (xs ys : List K) → AllByRecursion (λ z. R x z ≡ Less) xs → AllByRecursion (λ z. R x z ≡ Less) ys → ((q : K) → has (x ∷ xs) q ≡ has (x ∷ ys) q) → (q : K) → has xs q ≡ has ys q
  tails x xs ys a b h q =
      elim (eq_by_cmp R q x) as (λ v. eq_by_cmp R q x ≡ v → (v || has xs q) ≡ (v || has ys q) → has xs q ≡ has ys q) [
        | true ↦ λ e k. let is = same q x e in rw is (less_than_all x xs a ∙ sym (less_than_all x ys b))
        | false ↦ λ e k. k
      ] refl (h q)

  nothing_here : {A : Type 0} (y : K) (ys : List K) → has (y ∷ ys) y ≡ false → A
  nothing_here y ys h = absurd (true≢false (sym (or_tied (eq_by_cmp R y y) (has ys y) (tied y)) ∙ h))

  one_list : (xs ys : List K) → IsStrictlySortedBy R xs → IsStrictlySortedBy R ys → ((q : K) → has xs q ≡ has ys q) → xs ≡ ys
  unfolding IsStrictlySortedBy
  one_list [] [] s t h = refl
  one_list [] (y ∷ ys) s t h = nothing_here y ys (sym (h y))
  one_list (x ∷ xs) [] s t h = nothing_here x xs (h x)
  one_list (x ∷ xs) (y ∷ ys) s t h =
      let e = heads x y xs ys s.0 t.0 (sym (h x) ∙ or_tied (eq_by_cmp R x x) (has xs x) (tied x)) (h y ∙ or_tied (eq_by_cmp R y y) (has ys y) (tied y)) in
      let t' = subst (λ z. AllByRecursion (λ w. R z w ≡ Less) ys) (sym e) t.0 in
      let h' = subst (λ z. (q : K) → has (x ∷ xs) q ≡ has (z ∷ ys) q) (sym e) h in
      λ i. e i ∷ one_list xs ys s.1 t.1 (tails x xs ys s.0 t' h') i

  pub one_sorted : (members : set.FinSet R) (xs ys : List K) → ListsSorted members xs → ListsSorted members ys → xs ≡ ys
  one_sorted members xs ys a b =
      one_list xs ys a.rises b.rises (λ q. sym (contains-from_list o xs q) ∙ ap (λ s. contains s q) (a.lists.all ∙ sym b.lists.all) ∙ contains-from_list o ys q)
