-- Sets that lose and gain the items of a list.
use Rattle.std.proofs.Common.{◌≡◌, ℕ, ◌+◌, ◌<◌, Bool, true, false, ◌||◌, ◌&&◌, not, List, [], ◌∷◌, ◌++◌, length, drop, get_or, refl, sym, ap, ◌∙◌}
use mathlib.Core.Bool.{true≢false}
use Rattle.std.proofs.lemmas.List.{drop_more}
use Rattle.std.specs.declared.cmp.Ordering.{Ordering}
use Rattle.std.specs.Cmp.{Equal-is, IsTotalOrder, tied_itself}
use Rattle.std.specs.FinSet as set
use Rattle.std.specs.FinSet.{IsAntisymmetric, contains, contains-difference, contains-empty, contains-from_list, contains-items, contains-remove, contains-retain, difference, from_list, remove, retain, same_set}
use Rattle.std.specs.List.{AllByRecursion, list_any}
use Rattle.std.specs.Ordering.{eq_by_cmp, is_eq}

-- ---- truth

pub both_ways : (a b : Bool) → (a ≡ true → b ≡ true) → (b ≡ true → a ≡ true) → a ≡ b
both_ways true b f g = sym (f refl)
both_ways false true f g = g refl
both_ways false false f g = refl

-- two tests that agree where a third holds
pub where_true : (a x y : Bool) → (a ≡ true → x ≡ y) → (a && x) ≡ (a && y)
where_true true x y h = h refl
where_true false x y h = refl

pub and_true : (a : Bool) → (a && true) ≡ a
and_true true = refl
and_true false = refl

pub and_false : (a : Bool) → (a && false) ≡ false
and_false true = refl
and_false false = refl

pub or_false : (a : Bool) → (a || false) ≡ a
or_false true = refl
or_false false = refl

pub and_first : (a b : Bool) → (a && b) ≡ true → a ≡ true
and_first true b h = refl
and_first false b h = h

pub and_second : (a b : Bool) → (a && b) ≡ true → b ≡ true
and_second true b h = h
and_second false b h = absurd (true≢false (sym h))

but_first : (e a b : Bool) → ((not e && a) && not b) ≡ (a && not (e || b))
but_first true true b = refl
but_first true false b = refl
but_first false a b = refl

pub but_both : (a e b : Bool) → ((a && not e) && not b) ≡ (a && not (e || b))
but_both a true b = ap (λ x. x && not b) (and_false a) ∙ sym (and_false a)
but_both a false b = ap (λ x. x && not b) (and_true a)

-- ---- lists

pub next_of : {X : Type 0} (xs : List X) (x : X) (i : ℕ) → i < length xs → x ≡ get_or xs i x → drop i xs ≡ x ∷ drop (i + 1) xs
next_of xs x i h is = drop_more xs i x h ∙ ap (λ y. y ∷ drop (i + 1) xs) (sym is)

pub front_nothing : {X : Type 0} (old new found : List X) → old ≡ [] → new ≡ old ++ found → new ≡ found
front_nothing old new found e f = f ∙ ap (λ l. l ++ found) e

module _ {K : Type 0} {R : K → K → Ordering} (o : IsTotalOrder R) (apart : IsAntisymmetric R) where
  pub tie_itself : (x : K) → eq_by_cmp R x x ≡ true
  tie_itself x = ap is_eq (tied_itself o x)

  pub tie_same : (x y : K) → eq_by_cmp R x y ≡ true → x ≡ y
  tie_same x y t = apart x y ((Equal-is (R x y)).0 t)

  pub tie_sym : (x y : K) → eq_by_cmp R x y ≡ eq_by_cmp R y x
  tie_sym x y = both_ways _ _ (turned x y) (turned y x)
    where
      turned : (x y : K) → eq_by_cmp R x y ≡ true → eq_by_cmp R y x ≡ true
      turned x y t = ap (λ z. eq_by_cmp R y z) (tie_same x y t) ∙ tie_itself y

  pub contains-kept : (s : set.FinSet R) (p : K → Bool) (x : K) → contains (retain s p) x ≡ (contains s x && p x)
  contains-kept s p x = contains-retain s p x (λ y t. ap p (sym (apart x y t)))

  pub difference-nothing : (s : set.FinSet R) → difference s (from_list []) ≡ s
  difference-nothing s = same_set o apart _ _ (λ x. contains-difference o s (from_list []) x ∙ ap (λ b. contains s x && not b) (contains-empty R x) ∙ and_true (contains s x))

  pub difference-more : (s : set.FinSet R) (k : K) (ks : List K) → difference (remove s k) (from_list ks) ≡ difference s (from_list (k ∷ ks))
  difference-more s k ks = same_set o apart _ _ (λ x.
      contains-difference o (remove s k) (from_list ks) x
      ∙ (λ i. contains-remove o s k x i && not (contains-from_list o ks x i))
      ∙ but_first (eq_by_cmp R x k) (contains s x) (list_any (eq_by_cmp R x) ks)
      ∙ sym (contains-difference o s (from_list (k ∷ ks)) x ∙ ap (λ b. contains s x && not b) (contains-from_list o (k ∷ ks) x)))

  -- tests that agree on the members
  pub kept_alike : (s : set.FinSet R) (p r : K → Bool) → ((x : K) → contains s x ≡ true → p x ≡ r x) → retain s p ≡ retain s r
  kept_alike s p r same = same_set o apart _ _ (λ x. contains-kept s p x ∙ where_true (contains s x) (p x) (r x) (same x) ∙ sym (contains-kept s r x))

  pub kept_all : (s : set.FinSet R) (p : K → Bool) → ((x : K) → p x ≡ true) → retain s p ≡ s
  kept_all s p all = same_set o apart _ _ (λ x. contains-kept s p x ∙ ap (λ b. contains s x && b) (all x) ∙ and_true (contains s x))

  pub kept_none : (s : set.FinSet R) (p : K → Bool) → ((x : K) → contains s x ≡ true → p x ≡ false) → retain s p ≡ set.empty
  kept_none s p none = same_set o apart _ _ (λ x. contains-kept s p x ∙ where_true (contains s x) (p x) false (none x) ∙ and_false (contains s x) ∙ sym (contains-empty R x))

  -- two tests, one after the other
  pub kept_twice : (s : set.FinSet R) (p r w : K → Bool) → ((x : K) → (p x && r x) ≡ w x) → retain (retain s p) r ≡ retain s w
  kept_twice s p r w both = same_set o apart _ _ (λ x.
      contains-kept (retain s p) r x ∙ ap (λ b. b && r x) (contains-kept s p x) ∙ in_a_row (contains s x) (p x) (r x) ∙ ap (λ b. contains s x && b) (both x) ∙ sym (contains-kept s w x))
    where
      in_a_row : (a b c : Bool) → ((a && b) && c) ≡ (a && (b && c))
      in_a_row true b c = refl
      in_a_row false b c = refl

  -- a member passes
  any_at : (p : K → Bool) (x : K) (ys : List K) → p x ≡ true → list_any (eq_by_cmp R x) ys ≡ true → list_any p ys ≡ true
  any_at p x [] h a = a
  any_at p x (y ∷ ys) h a =
      elim (eq_by_cmp R x y) as (λ t. eq_by_cmp R x y ≡ t → (t || list_any (eq_by_cmp R x) ys) ≡ true → (p y || list_any p ys) ≡ true) [
        | true ↦ λ t _. ap (λ b. b || list_any p ys) (ap p (sym (tie_same x y t)) ∙ h)
        | false ↦ λ _ a. later (p y) (any_at p x ys h a)
      ] refl a
    where
      later : (b : Bool) {c : Bool} → c ≡ true → (b || c) ≡ true
      later true e = refl
      later false e = e

  any_of : (p : K → Bool) (xs ys : List K) → ((x : K) → list_any (eq_by_cmp R x) xs ≡ true → list_any (eq_by_cmp R x) ys ≡ true) → list_any p xs ≡ true → list_any p ys ≡ true
  any_of p [] ys within h = absurd (true≢false (sym h))
  any_of p (x ∷ xs) ys within h =
      elim (p x) as (λ t. p x ≡ t → (t || list_any p xs) ≡ true → list_any p ys ≡ true) [
        | true ↦ λ t _. any_at p x ys t (within x (ap (λ b. b || list_any (eq_by_cmp R x) xs) (tie_itself x)))
        | false ↦ λ _ h. any_of p xs ys (λ z a. within z (also (eq_by_cmp R z x) a)) h
      ] refl h
    where
      also : (b : Bool) {c : Bool} → c ≡ true → (b || c) ≡ true
      also true e = refl
      also false e = e

  -- a test is passed by one item of the list where it is by one of the set's
  pub any_item : (s : set.FinSet R) (xs : List K) (p : K → Bool) → from_list xs ≡ s → list_any p xs ≡ list_any p (set.items s)
  any_item s xs p e = both_ways _ _
      (any_of p xs (set.items s) (λ x a. sym (contains-items s x) ∙ ap (λ z. contains z x) (sym e) ∙ contains-from_list o xs x ∙ a))
      (any_of p (set.items s) xs (λ x a. sym (contains-from_list o xs x) ∙ ap (λ z. contains z x) e ∙ contains-items s x ∙ a))

  -- what holds of each member holds of each item
  pub each_item : (P : K → Type 0) (xs : List K) → ((x : K) → list_any (eq_by_cmp R x) xs ≡ true → P x) → AllByRecursion P xs
  each_item P [] h = tt
  each_item P (x ∷ xs) h = (h x (ap (λ b. b || list_any (eq_by_cmp R x) xs) (tie_itself x)), each_item P xs (λ y a. h y (also (eq_by_cmp R y x) a)))
    where
      also : (b : Bool) {c : Bool} → c ≡ true → (b || c) ≡ true
      also true e = refl
      also false e = e
