-- There is one sorted list with given counts.
use Rattle.std.proofs.Common.{◌≡◌, ℕ, zero, suc, ◌+◌, ◌<◌, ◌≤◌, Bool, true, false, cond, not, ◌&&◌, List, [], ◌∷◌, length, get_or, refl, sym, ap, ◌∙◌, arith, subst}
use Rattle.std.specs.List.{sum_by, count_by, list_all}
use Rattle.std.specs.List.Sorted.{IsSorted}
use Rattle.std.proofs.lemmas.List.Sums.{sum_by-cons}
use Rattle.std.proofs.lemmas.List.Sorted.{sorted_far}
use Rattle.sparql_values.specs.Mapping.{Mapping, same_mapping}
use Rattle.sparql_algebra.specs.Order.{mapping_cmp}
use Rattle.sparql_algebra.specs.Bags.{SameBag}
use Rattle.sparql_algebra.specs.Sorted.{put, sort}
use Rattle.sparql_algebra.proofs.Sums.{one}
use Rattle.sparql_algebra.proofs.TruthLemmas.{and_left, and_right}
use Rattle.sparql_algebra.proofs.TermLemmas.{same_mapping_is, same_mapping_own}
use Rattle.sparql_algebra.proofs.OrderLemmas.{less, mapping_ranks, neither_less}

-- x isn't greater than any of these
abbrev pub leads : Mapping → List Mapping → Bool
leads x ys = list_all (λ y. not (less y x)) ys

abbrev pub Rises : List Mapping → Type 0
Rises [] = Unit {0}
Rises (x ∷ xs) = (leads x xs ≡ true) × Rises xs

pub not_true : (b : Bool) → not b ≡ true → b ≡ false
not_true true h = cc
not_true false h = refl

not_false : (b : Bool) → b ≡ false → not b ≡ true
not_false b h = ap not h

less_not : (a b : Mapping) → less a b ≡ true → less b a ≡ false
less_not a b h = mapping_ranks.one_way a b h

chain : (a b c : Mapping) → less a b ≡ false → less b c ≡ false → less a c ≡ false
chain a b c h k = mapping_ranks.chain a b c h k

-- ---- from and to the order by places

all_from_places : (p : Mapping → Bool) (xs : List Mapping) → ((k : ℕ) → k < length xs → p (get_or xs k []) ≡ true) → list_all p xs ≡ true
all_from_places p [] h = refl
all_from_places p (x ∷ xs) h =
    ap (λ b. b && list_all p xs) (h zero (omega arith)) ∙ all_from_places p xs (λ k l. h (suc k) (omega arith))

abbrev Far : List Mapping → Type 0
Far xs = (i j : ℕ) → i ≤ j → j < length xs → less (get_or xs j []) (get_or xs i []) ≡ false

rises_far : (xs : List Mapping) → Far xs → Rises xs
rises_far [] h = tt
rises_far (x ∷ xs) h = (
  all_from_places (λ y. not (less y x)) xs (λ k l. not_false (less (get_or xs k []) x) (h zero (suc k) (omega arith) (omega arith))),
  rises_far xs (λ i j a b. h (suc i) (suc j) (omega arith) (omega arith)),
)

pub rises_from : (xs : List Mapping) → IsSorted mapping_cmp xs → Rises xs
rises_from xs h = rises_far xs (λ i j a b. sorted_far less mapping_ranks xs h i j [] a b)

abbrev Next : List Mapping → Type 0
Next xs = (k : ℕ) (d : Mapping) → k + 1 < length xs → less (get_or xs (k + 1) d) (get_or xs k d) ≡ false

next_in : (xs : List Mapping) → Rises xs → Next xs
next_in [] r k d h = absurd (omega arith)
next_in (x ∷ []) r k d h = absurd (omega arith)
next_in (x ∷ y ∷ ys) r zero d h = not_true (less y x) (and_left (not (less y x)) _ r.0)
next_in (x ∷ y ∷ ys) r (suc k) d h =
    let e : k + 1 ≡ suc k = omega arith in
    let rest : less (get_or (y ∷ ys) (k + 1) d) (get_or (y ∷ ys) k d) ≡ false = next_in (y ∷ ys) r.1 k d (omega arith) in
    let at : suc (k + 1) ≡ suc k + 1 = omega arith in
    subst (λ (n : ℕ). less (get_or (x ∷ y ∷ ys) n d) (get_or (y ∷ ys) k d) ≡ false) at rest

pub sorted_from : (xs : List Mapping) → Rises xs → IsSorted mapping_cmp xs
sorted_from xs r k d a b = next_in xs r k d b

-- a mapping that stands in a list isn't less than its first one
pub leads_counted : (x y : Mapping) (ys : List Mapping) → leads y ys ≡ true → 0 < count_by (same_mapping x) (y ∷ ys) → less x y ≡ false
leads_counted x y ys h c = by_head (same_mapping x y) refl
  where
    counted : count_by (same_mapping x) (y ∷ ys) ≡ one (same_mapping x y) + count_by (same_mapping x) ys
    counted = sum_by-cons _ y ys

    own_not : (z : Mapping) → less z z ≡ false
    own_not z = by_test (less z z) refl
      where
        by_test : (b : Bool) → less z z ≡ b → b ≡ false
        by_test true e = sym e ∙ less_not z z e
        by_test false e = refl

    later : (zs : List Mapping) → leads y zs ≡ true → 0 < count_by (same_mapping x) zs → less x y ≡ false
    later [] l p = absurd (omega arith)
    later (z ∷ zs) l p = by_test (same_mapping x z) refl (later zs (and_right (not (less z y)) _ l))
      where
        here : count_by (same_mapping x) (z ∷ zs) ≡ one (same_mapping x z) + count_by (same_mapping x) zs
        here = sum_by-cons _ z zs

        by_test : (b : Bool) → same_mapping x z ≡ b → (0 < count_by (same_mapping x) zs → less x y ≡ false) → less x y ≡ false
        by_test true e k = ap (λ (m : Mapping). less m y) (same_mapping_is x z e) ∙ not_true (less z y) (and_left (not (less z y)) _ l)
        by_test false e k = let n : one (same_mapping x z) ≡ 0 = ap one e in k (omega (arith, p, here, n))

    by_head : (b : Bool) → same_mapping x y ≡ b → less x y ≡ false
    by_head true e = ap (λ (m : Mapping). less m y) (same_mapping_is x y e) ∙ own_not y
    by_head false e = let n : one (same_mapping x y) ≡ 0 = ap one e in later ys h (omega (arith, c, counted, n))

-- ---- one sorted list

at_own : (x : Mapping) (xs : List Mapping) → count_by (same_mapping x) (x ∷ xs) ≡ 1 + count_by (same_mapping x) xs
at_own x xs =
    let c : count_by (same_mapping x) (x ∷ xs) ≡ one (same_mapping x x) + count_by (same_mapping x) xs = sum_by-cons _ x xs in
    let z : one (same_mapping x x) ≡ 1 = ap one (same_mapping_own x) in
    omega (arith, c, z)

pub one_rising : (xs ys : List Mapping) → Rises xs → Rises ys → ((m : Mapping) → count_by (same_mapping m) xs ≡ count_by (same_mapping m) ys) → xs ≡ ys
one_rising [] [] r s h = refl
one_rising [] (y ∷ ys) r s h = absurd (omega (arith, h y, at_own y ys))
one_rising (x ∷ xs) [] r s h = absurd (omega (arith, h x, at_own x xs))
one_rising (x ∷ xs) (y ∷ ys) r s h =
    let first : x ≡ y =
    neither_less x y (leads_counted x y ys s.0 (omega (arith, h x, at_own x xs))) (leads_counted y x xs r.0 (omega (arith, h y, at_own y ys))) in
    let rest : xs ≡ ys = one_rising xs ys r.1 s.1 (λ m.
    let c : count_by (same_mapping m) (x ∷ xs) ≡ one (same_mapping m x) + count_by (same_mapping m) xs = sum_by-cons _ x xs in
    let d : count_by (same_mapping m) (y ∷ ys) ≡ one (same_mapping m y) + count_by (same_mapping m) ys = sum_by-cons _ y ys in
    let e : one (same_mapping m x) ≡ one (same_mapping m y) = ap (λ (z : Mapping). one (same_mapping m z)) first in
    omega (arith, h m, c, d, e)) in
    cc

pub one_sorted : (xs ys : List Mapping) → IsSorted mapping_cmp xs → IsSorted mapping_cmp ys →
    ((m : Mapping) → count_by (same_mapping m) xs ≡ count_by (same_mapping m) ys) → xs ≡ ys
one_sorted xs ys h k = one_rising xs ys (rises_from xs h) (rises_from ys k)

-- ---- there is one

all_put : (p : Mapping → Bool) (x : Mapping) (ys : List Mapping) → p x ≡ true → list_all p ys ≡ true → list_all p (put x ys) ≡ true
all_put p x [] h k = ap (λ b. b && true) h
all_put p x (y ∷ ys) h k = by_test (less y x) (all_put p x ys h (and_right (p y) _ k))
  where
    by_test : (b : Bool) → list_all p (put x ys) ≡ true → list_all p (cond b (y ∷ put x ys) (x ∷ y ∷ ys)) ≡ true
    by_test true r = ap (λ b. b && list_all p (put x ys)) (and_left (p y) _ k) ∙ r
    by_test false r = ap (λ b. b && (p y && list_all p ys)) h ∙ k

leads_less : (x y : Mapping) (zs : List Mapping) → less y x ≡ false → leads y zs ≡ true → leads x zs ≡ true
leads_less x y [] h k = refl
leads_less x y (z ∷ zs) h k =
    ap (λ b. b && leads x zs) (not_false (less z x) (chain z y x (not_true (less z y) (and_left (not (less z y)) _ k)) h))
    ∙ leads_less x y zs h (and_right (not (less z y)) _ k)

put_rises : (x : Mapping) (ys : List Mapping) → Rises ys → Rises (put x ys)
put_rises x [] r = (refl, tt)
put_rises x (y ∷ ys) r = by_test (less y x) refl (put_rises x ys r.1)
  where
    by_test : (b : Bool) → less y x ≡ b → Rises (put x ys) → Rises (cond b (y ∷ put x ys) (x ∷ y ∷ ys))
    by_test true e k = (all_put (λ z. not (less z y)) x ys (not_false (less x y) (less_not y x e)) r.0, k)
    by_test false e k = (ap (λ b. b && leads x ys) (not_false (less y x) e) ∙ leads_less x y ys e r.0, r)

sum_put : (f : Mapping → ℕ) (x : Mapping) (ys : List Mapping) → sum_by f (put x ys) ≡ f x + sum_by f ys
sum_put f x [] = sum_by-cons f x []
sum_put f x (y ∷ ys) = by_test (less y x) (sum_put f x ys)
  where
    by_test : (b : Bool) → sum_by f (put x ys) ≡ f x + sum_by f ys → sum_by f (cond b (y ∷ put x ys) (x ∷ y ∷ ys)) ≡ f x + sum_by f (y ∷ ys)
    by_test true r = omega (arith, r, sum_by-cons f y (put x ys), sum_by-cons f y ys)
    by_test false r = sum_by-cons f x (y ∷ ys)

pub all_sort : (p : Mapping → Bool) (xs : List Mapping) → list_all p xs ≡ true → list_all p (sort xs) ≡ true
all_sort p [] h = refl
all_sort p (x ∷ xs) h = all_put p x (sort xs) (and_left (p x) _ h) (all_sort p xs (and_right (p x) _ h))

sort_rises : (xs : List Mapping) → Rises (sort xs)
sort_rises [] = tt
sort_rises (x ∷ xs) = put_rises x (sort xs) (sort_rises xs)

pub sort_sorted : (xs : List Mapping) → IsSorted mapping_cmp (sort xs)
sort_sorted xs = sorted_from (sort xs) (sort_rises xs)

pub sort_same : (xs : List Mapping) → SameBag (sort xs) xs
sort_same [] f = refl
sort_same (x ∷ xs) f = omega (arith, sum_put f x (sort xs), sort_same xs f, sum_by-cons f x xs)
