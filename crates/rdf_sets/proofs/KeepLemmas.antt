-- Walking along two rising lists at once.
use Rattle.std.proofs.Common.{◌≡◌, ℕ, zero, suc, ◌+◌, ◌<◌, ◌≤◌, List, [], ◌∷◌, length, take, drop, get_or, refl, sym, ap, ◌∙◌, subst, arith}
use Rattle.std.proofs.lemmas.List.{take_more, drop_more, drop_all}
use Rattle.std.specs.declared.cmp.Ordering.{Ordering}
use Rattle.std.specs.declared.cmp.Ordering.TheVariants.{Less, Equal, Greater}
use Rattle.std.specs.Cmp.{IsTotalOrder}
use Rattle.std.specs.List.{AllByRecursion}
use Rattle.std.specs.List.Sorted.{IsStrictlySortedBy}
use Rattle.std.specs.FinSet.{IsAntisymmetric}
use Rattle.std.proofs.lemmas.List.{take-append-drop}
use Rattle.rdf_sets.specs.Inside.Places.{IsFoundAt, IsGapAt}
use Rattle.rdf_sets.proofs.SortedLemmas.{Below, all_map, all_join, rising_head, rising_right, turned_less}

pub all_more : {X : Type 0} (P : X → Type 0) (xs : List X) (i : ℕ) (d : X) → i < length xs → AllByRecursion P (take i xs) → P (get_or xs i d) → AllByRecursion P (take (i + 1) xs)
all_more P xs i d h a p = subst (AllByRecursion P) (sym (take_more xs i d h)) (all_join P (take i xs) (get_or xs i d ∷ []) a (p, tt))

any_default : {X : Type 0} (xs : List X) (i : ℕ) (d e : X) → i < length xs → get_or xs i d ≡ get_or xs i e
any_default [] i d e h = absurd (omega arith)
any_default (x ∷ xs) zero d e h = refl
any_default (x ∷ xs) (suc i) d e h = any_default xs i d e (omega arith)

module _ {K : Type 0} {R : K → K → Ordering} (o : IsTotalOrder R) (apart : IsAntisymmetric R) where
  pub below_more : (g x : K) (rest : List K) → R g x ≡ Less → Below R x rest → Below R g rest
  below_more g x rest l b = all_map (λ y. R x y ≡ Less) (λ y. R g y ≡ Less) (λ y e. o.trans g x y l e) rest b

  pub found_here : (xs : List K) (x y : K) (i : ℕ) → i < length xs → y ≡ get_or xs i y → R y x ≡ Equal → IsFoundAt R xs x i
  found_here xs x y i h is t = record { inside = h; ties = λ d. ap (λ z. R z x) (any_default xs i d y h ∙ sym is) ∙ t }

  split : (xs : List K) (y : K) (i : ℕ) → i < length xs → y ≡ get_or xs i y → drop i xs ≡ y ∷ drop (i + 1) xs
  split xs y i h is = drop_more xs i y h ∙ ap (λ z. z ∷ drop (i + 1) xs) (sym is)

  pub rises_from : (xs : List K) (y : K) (i : ℕ) → i < length xs → y ≡ get_or xs i y → IsStrictlySortedBy R xs → Below R y (drop (i + 1) xs)
  rises_from xs y i h is s =
      rising_head R y (drop (i + 1) xs) (subst (IsStrictlySortedBy R) (split xs y i h is) (rising_right R (take i xs) (drop i xs) (subst (IsStrictlySortedBy R) (sym (take-append-drop i xs)) s)))

  pub gap_here : (xs : List K) (x y : K) (i : ℕ) → IsStrictlySortedBy R xs → i < length xs → y ≡ get_or xs i y → AllByRecursion (λ z. R z x ≡ Less) (take i xs) → R y x ≡ Greater → IsGapAt R xs x i
  gap_here xs x y i s h is a g =
      let l = turned_less o apart y x g in
      record { inside = omega arith; before = a; behind = subst (AllByRecursion (λ z. R x z ≡ Less)) (sym (split xs y i h is)) (l, below_more x y (drop (i + 1) xs) l (rises_from xs y i h is s)) }

  pub gap_end : (xs : List K) (x : K) (i : ℕ) → i ≤ length xs → length xs ≤ i → AllByRecursion (λ z. R z x ≡ Less) (take i xs) → IsGapAt R xs x i
  gap_end xs x i h end a = record { inside = h; before = a; behind = subst (AllByRecursion (λ z. R x z ≡ Less)) (sym (drop_all i xs end)) tt }

  -- what was passed is below the next item, and what is below that one is below all that follow
  pub passed_before : (gone xs : List K) (y : K) (i n : ℕ) → i < length xs → y ≡ get_or xs i y → AllByRecursion (λ g. Below R g (drop i xs)) (take n gone) → AllByRecursion (λ g. R g y ≡ Less) (take n gone)
  passed_before gone xs y i n h is a =
      all_map (λ g. Below R g (drop i xs)) (λ g. R g y ≡ Less) (λ g b. (subst (Below R g) (split xs y i h is) b).0) (take n gone) a

  pub passed_after : (gone xs : List K) (y : K) (i n : ℕ) → IsStrictlySortedBy R xs → i < length xs → y ≡ get_or xs i y → AllByRecursion (λ g. R g y ≡ Less) (take n gone) → AllByRecursion (λ g. Below R g (drop (i + 1) xs)) (take n gone)
  passed_after gone xs y i n s h is a =
      all_map (λ g. R g y ≡ Less) (λ g. Below R g (drop (i + 1) xs)) (λ g l. below_more g y (drop (i + 1) xs) l (rises_from xs y i h is s)) (take n gone) a

pub same_item : {X : Type 0} (xs ys : List X) (i : ℕ) (y : X) → drop i ys ≡ drop i xs → i < length xs → i < length ys → y ≡ get_or ys i y → y ≡ get_or xs i y
same_item xs ys i y rest h k is = is ∙ ap (λ l. get_or l 0 y) (sym (drop_more ys i y k) ∙ rest ∙ drop_more xs i y h)
