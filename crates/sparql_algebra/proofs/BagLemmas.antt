-- The operators of the algebra keep bags.
use Rattle.std.proofs.Common.{◌≡◌, ℕ, zero, suc, ◌+◌, ◌<◌, Bool, true, false, cond, ◌||◌, List, [], ◌∷◌, ◌++◌, map, filter, refl, sym, ap, ◌∙◌, arith}
use Rattle.std.specs.List.{sum_by, count_by, flat_map, list_any}
use Rattle.std.proofs.lemmas.List.Sums.{sum_by-cons, sum_by-append}
use Rattle.sparql_algebra.specs.Bags.{SameBag}
use Rattle.sparql_values.specs.Mapping.{Mapping, compatible, merge}
use Rattle.sparql_algebra.specs.Solutions.{merges, joins, left_joins, or_alone}
use Rattle.sparql_algebra.proofs.Sums.{one, sum_by-cong, sum_by-filter, sum_by-map, sum_by-flat_map}

abbrev is_above : ℕ → Bool
is_above zero = false
is_above (suc n) = true

above_is : (n : ℕ) → 0 < n → is_above n ≡ true
above_is zero h = absurd (omega arith)
above_is (suc n) h = refl

module _ {X : Type 0} where
  any_counted : (p : X → Bool) (xs : List X) → list_any p xs ≡ is_above (count_by p xs)
  any_counted p [] = refl
  any_counted p (x ∷ xs) = by_head (p x) refl (any_counted p xs)
    where
      counted : count_by p (x ∷ xs) ≡ one (p x) + count_by p xs
      counted = sum_by-cons _ x xs

      by_head : (b : Bool) → p x ≡ b → list_any p xs ≡ is_above (count_by p xs) → (b || list_any p xs) ≡ is_above (count_by p (x ∷ xs))
      by_head true e r = let z : one (p x) ≡ 1 = ap one e in sym (above_is (count_by p (x ∷ xs)) (omega (arith, counted, z)))
      by_head false e r =
          let z : one (p x) ≡ 0 = ap one e in
          let c : count_by p (x ∷ xs) ≡ count_by p xs = omega (arith, counted, z) in
          r ∙ ap is_above (sym c)

  pub any_same : (p : X → Bool) (xs ys : List X) → SameBag xs ys → list_any p xs ≡ list_any p ys
  any_same p xs ys h = any_counted p xs ∙ ap is_above (h (λ x. cond (p x) 1 0)) ∙ sym (any_counted p ys)

pub SameBag-refl : {X : Type 0} (xs : List X) → SameBag xs xs
SameBag-refl xs f = refl

pub SameBag-trans : {X : Type 0} (xs ys zs : List X) → SameBag xs ys → SameBag ys zs → SameBag xs zs
SameBag-trans xs ys zs p q f = p f ∙ q f

pub SameBag-filter : {X : Type 0} (p : X → Bool) (xs ys : List X) → SameBag xs ys → SameBag (filter p xs) (filter p ys)
SameBag-filter p xs ys h f = sum_by-filter f p xs ∙ h (λ x. cond (p x) (f x) 0) ∙ sym (sum_by-filter f p ys)

pub SameBag-map : {X Y : Type 0} (g : X → Y) (xs ys : List X) → SameBag xs ys → SameBag (map g xs) (map g ys)
SameBag-map g xs ys h f = sum_by-map f g xs ∙ h (λ x. f (g x)) ∙ sym (sum_by-map f g ys)

pub SameBag-append : {X : Type 0} (xs ys us vs : List X) → SameBag xs ys → SameBag us vs → SameBag (xs ++ us) (ys ++ vs)
SameBag-append xs ys us vs h k f = omega (arith, sum_by-append f xs us, sum_by-append f ys vs, h f, k f)

pub SameBag-flat_map : {X Y : Type 0} (g k : X → List Y) (xs ys : List X) → SameBag xs ys → ((x : X) → SameBag (g x) (k x)) →
    SameBag (flat_map g xs) (flat_map k ys)
SameBag-flat_map g k xs ys h each f =
    sum_by-flat_map f g xs ∙ sum_by-cong (λ x. sum_by f (g x)) (λ x. sum_by f (k x)) xs (λ x. each x f)
    ∙ h (λ x. sum_by f (k x)) ∙ sym (sum_by-flat_map f k ys)

pub SameBag-merges : (a : Mapping) (B D : List Mapping) → SameBag B D → SameBag (merges B a) (merges D a)
SameBag-merges a B D h = SameBag-map (merge a) (filter (compatible a) B) (filter (compatible a) D) (SameBag-filter (compatible a) B D h)

pub SameBag-joins : (A C B D : List Mapping) → SameBag A C → SameBag B D → SameBag (joins A B) (joins C D)
SameBag-joins A C B D h k = SameBag-flat_map (merges B) (merges D) A C h (λ a. SameBag-merges a B D k)

pub SameBag-or_alone : (a : Mapping) (xs ys : List Mapping) → SameBag xs ys → SameBag (or_alone a xs) (or_alone a ys)
SameBag-or_alone a [] [] h = SameBag-refl (a ∷ [])
SameBag-or_alone a [] (y ∷ ys) h = absurd (omega (arith, h (λ _. 1), sum_by-cons (λ (_ : Mapping). 1) y ys))
SameBag-or_alone a (x ∷ xs) [] h = absurd (omega (arith, h (λ _. 1), sum_by-cons (λ (_ : Mapping). 1) x xs))
SameBag-or_alone a (x ∷ xs) (y ∷ ys) h = h

pub SameBag-left_joins : (F : Mapping → Bool) (A C B D : List Mapping) → SameBag A C → SameBag B D → SameBag (left_joins A B F) (left_joins C D F)
SameBag-left_joins F A C B D h k =
    SameBag-flat_map (λ a. or_alone a (filter F (merges B a))) (λ a. or_alone a (filter F (merges D a))) A C h
    (λ a. SameBag-or_alone a (filter F (merges B a)) (filter F (merges D a)) (SameBag-filter F (merges B a) (merges D a) (SameBag-merges a B D k)))
