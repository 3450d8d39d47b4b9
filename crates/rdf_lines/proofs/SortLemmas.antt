-- Lists in order with the same elements are the same list.
use Rattle.std.proofs.Common.{◌≡◌, ◌∙◌, ap, refl, sym, ℕ, ◌+◌, ◌≤◌, ◌<◌, arith, Bool, true, false, cond, List, [], ◌∷◌, length, map, true≢false, suc, IsSorted, IsPermutation, get_or}
use Rattle.std.specs.List.{sum_by, flat_map, AllByRecursion}
use Rattle.std.specs.Cmp.{IsTotalOrder}
use Rattle.std.specs.Ordering.{is_lt, is_gt, ordering_reverse}
use Rattle.std.specs.FinSet.{IsAntisymmetric}
use Rattle.std.specs.declared.cmp.Ordering.{Ordering}
use Rattle.std.specs.declared.cmp.Ordering.TheVariants.{Less, Equal, Greater}
use Rattle.std.proofs.lemmas.Cmp.{tied_itself, upto}
use Rattle.std.proofs.lemmas.List.{get_or-map, length-map}
use Rattle.std.proofs.lemmas.List.Sorted.{sum_by-IsPermutation, sorted_far, ranks_by}
use Rattle.std.proofs.lemmas.List.Sums.{sum_by-cons}
use Rattle.rdf_terms.specs.Order.{quad_cmp}
use Rattle.rdf_terms.specs.OrderLaws.{quad_cmp_total, quad_cmp-IsAntisymmetric}
use Rattle.rdf_lines.specs.QuadText.{quad_text, SortedTextIsOne}

-- a sum over a list, from its front
abbrev tally : {X : Type 0} → (X → ℕ) → List X → ℕ
tally f [] = 0
tally f (x ∷ xs) = f x + tally f xs

tally_is : {X : Type 0} (f : X → ℕ) (xs : List X) → sum_by f xs ≡ tally f xs
tally_is f [] = refl
tally_is f (x ∷ xs) = sum_by-cons f x xs ∙ ap (λ n. f x + n) (tally_is f xs)

module _ {X : Type 0} (cmp : X → X → Ordering) (o : IsTotalOrder cmp) (anti : IsAntisymmetric cmp) where
  abbrev pub AtLeast : X → List X → Type 0
  AtLeast x ys = AllByRecursion (λ y. is_gt (cmp x y) ≡ false) ys

  -- no element is above one behind it
  abbrev pub Rises : List X → Type 0
  Rises [] = Unit {0}
  Rises (x ∷ xs) = AtLeast x xs × Rises xs

  -- 1 for what isn't above x
  abbrev within : X → X → ℕ
  within x y = cond (is_gt (cmp y x)) 0 1

  none_within : (x y : X) → is_gt (cmp y x) ≡ true → (zs : List X) → AtLeast y zs → tally (within x) zs ≡ 0
  none_within x y above [] h = refl
  none_within x y above (z ∷ zs) h = by (is_gt (cmp z x)) refl (none_within x y above zs h.1)
    where
      by : (b : Bool) → is_gt (cmp z x) ≡ b → tally (within x) zs ≡ 0 → within x z + tally (within x) zs ≡ 0
      by true e later = λ i. cond (e i) 0 1 + later i
      by false e later = absurd (true≢false (sym above ∙ upto o y z x h.0 e))

  own_within : (x : X) → within x x ≡ 1
  own_within x = ap (λ r. cond (is_gt r) 0 1) (tied_itself o x)

  contradicts : (a b c d : ℕ) → a ≡ 1 → c ≡ 0 → d ≡ 0 → a + b ≡ c + d → ⊥
  contradicts a b c d p q r s = omega (arith, p, q, r, s)

  not_above : (x y : X) (xs ys : List X) → AtLeast y ys → tally (within x) (x ∷ xs) ≡ tally (within x) (y ∷ ys) → is_gt (cmp y x) ≡ false
  not_above x y xs ys h same = by (is_gt (cmp y x)) refl
    where
      by : (b : Bool) → is_gt (cmp y x) ≡ b → is_gt (cmp y x) ≡ false
      by false e = e
      by true e =
          let first : within x y ≡ 0 = ap (λ b. cond b 0 1) e in
          absurd (contradicts (within x x) (tally (within x) xs) (within x y) (tally (within x) ys) (own_within x) first (none_within x y e ys h) same)

  ties : (r s : Ordering) → r ≡ ordering_reverse s → is_gt r ≡ false → is_gt s ≡ false → r ≡ Equal
  ties Less Less e p q = cc
  ties Less Equal e p q = cc
  ties Less Greater e p q = absurd (true≢false q)
  ties Equal s e p q = refl
  ties Greater s e p q = absurd (true≢false p)

  no_more : (n : ℕ) → 0 ≡ 1 + n → ⊥
  no_more n e = omega (arith, e)

  cancels : (a b m n : ℕ) → a ≡ b → a + m ≡ b + n → m ≡ n
  cancels a b m n e h = omega (arith, e, h)

  pub same_rising : (xs ys : List X) → Rises xs → Rises ys → ((f : X → ℕ) → tally f xs ≡ tally f ys) → xs ≡ ys
  same_rising [] [] p q h = refl
  same_rising [] (y ∷ ys) p q h = absurd (no_more (tally (λ _. 1) ys) (h (λ _. 1)))
  same_rising (x ∷ xs) [] p q h = absurd (no_more (tally (λ _. 1) xs) (sym (h (λ _. 1))))
  same_rising (x ∷ xs) (y ∷ ys) p q h =
      let first : x ≡ y = anti x y (ties (cmp x y) (cmp y x) (o.antisymm x y) (not_above y x ys xs p.0 (sym (h (within y)))) (not_above x y xs ys q.0 (h (within x)))) in
      let others : xs ≡ ys = same_rising xs ys p.1 q.1 (λ f. cancels (f x) (f y) (tally f xs) (tally f ys) (ap f first) (h f)) in
      λ i. first i ∷ others i

  all_of : (P : X → Type 0) (xs : List X) → ((j : ℕ) (d : X) → j < length xs → P (get_or xs j d)) → AllByRecursion P xs
  all_of P [] h = tt
  all_of P (x ∷ xs) h = (h 0 x (omega arith), all_of P xs (λ j d l. h (suc j) d (omega (arith, l))))

  flipped : (r s : Ordering) → r ≡ ordering_reverse s → is_lt s ≡ false → is_gt r ≡ false
  flipped Less s e h = refl
  flipped Equal s e h = refl
  flipped Greater Less e h = absurd (true≢false h)
  flipped Greater Equal e h = cc
  flipped Greater Greater e h = cc

  from_far : (xs : List X) → ((i j : ℕ) (d : X) → i ≤ j → j < length xs → is_lt (cmp (get_or xs j d) (get_or xs i d)) ≡ false) → Rises xs
  from_far [] h = tt
  from_far (x ∷ xs) h = (
    all_of (λ y. is_gt (cmp x y) ≡ false) xs (λ j d l. flipped (cmp x (get_or xs j d)) (cmp (get_or xs j d) x) (o.antisymm x (get_or xs j d)) (h 0 (suc j) d (omega arith) (omega (arith, l)))),
    from_far xs (λ i j d l m. h (suc i) (suc j) d (omega (arith, l)) (omega (arith, m))),
  )

  pub rises : (xs : List X) → IsSorted cmp xs → Rises xs
  rises xs s = from_far xs (sorted_far (λ x y. is_lt (cmp x y)) (ranks_by o (λ x. x)) xs s)

  pub same_sorted : (start xs ys : List X) → IsPermutation start xs → IsSorted cmp xs → IsPermutation start ys → IsSorted cmp ys → xs ≡ ys
  same_sorted start xs ys p s q t =
      same_rising xs ys (rises xs s) (rises ys t) (λ f. sym (tally_is f xs) ∙ sum_by-IsPermutation f start xs p ∙ sym (sum_by-IsPermutation f start ys q) ∙ tally_is f ys)

-- a list in order by keys has its keys in order
pub IsSorted-map : {A B : Type 0} (f : A → B) (cmp : B → B → Ordering) (xs : List A) → IsSorted (λ x y. cmp (f x) (f y)) xs → IsSorted cmp (map f xs)
IsSorted-map f cmp [] s k d low high = absurd (omega (arith, high))
IsSorted-map f cmp (x ∷ xs) s k d low high =
    let long : length (map f (x ∷ xs)) ≡ length (x ∷ xs) = length-map (x ∷ xs) f in
    let at : k + 1 < length (x ∷ xs) = omega (arith, high, long) in
    (λ i. is_lt (cmp (get_or-map f (x ∷ xs) (k + 1) x d at i) (get_or-map f (x ∷ xs) k x d (let l : k < length (x ∷ xs) = omega (arith, at) in l) i))) ∙ s k x low at

pub one_text : SortedTextIsOne
one_text quads text other (xs, p, s, e) (ys, q, t, f) =
    e ∙ ap (flat_map quad_text) (same_sorted quad_cmp quad_cmp_total quad_cmp-IsAntisymmetric quads xs ys p s q t) ∙ sym f
