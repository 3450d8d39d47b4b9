-- Names that are put in at their places stay in order, and are just those that were put in.
use Rattle.std.proofs.Common.{◌≡◌, ◌∙◌, ◌⊎◌, ap, refl, sym, subst, inl, inr, ℕ, zero, suc, ◌<◌, List, [], ◌∷◌, length, Contains, ◌↔◌, arith}
use Rattle.std.proofs.lemmas.List.Elements.{Contains-append_right}
use Rattle.std.specs.declared.cmp.Ordering.{Ordering}
use Rattle.std.specs.declared.cmp.Ordering.TheVariants.{Less, Equal, Greater}
use Rattle.std.specs.Ordering.{match_ordering, ordering_reverse}
use Rattle.std.specs.BTreeSet.{insert_key}
use Rattle.std.specs.Cmp.{IsTotalOrder}
use Rattle.std.specs.Cmp.Lexicographic.{nat_list_cmp_total}
use Rattle.std.specs.FinSet.{IsAntisymmetric}
use Rattle.std.specs.List.{AllByRecursion}
use Rattle.std.specs.List.Sorted.{IsStrictlySortedBy}
use Rattle.rdf_terms.specs.Order.{text_cmp}
use Rattle.rdf_terms.specs.OrderLaws.{text_cmp-IsAntisymmetric}
use Rattle.sparql_trees.specs.Visible.{Names, all_names_in, named, names_in, visible, with_names}
use Rattle.sparql_trees.specs.VisibleLaws.{AreNames, NamedAreSorted, OneVisible, VisibleAreSorted}

less_greater : Less ≡ Greater → ⊥
less_greater e = cc

module _ {K : Type 0} (R : K → K → Ordering) (o : IsTotalOrder R) (apart : IsAntisymmetric R) where
  abbrev Below : K → List K → Type 0
  Below x ys = AllByRecursion (λ y. R x y ≡ Less) ys

  -- ---- order

  further : (k x : K) (xs : List K) → R k x ≡ Less → Below x xs → Below k xs
  further k x [] l b = tt
  further k x (y ∷ ys) l b = (o.trans k x y l b.0, further k x ys l b.1)

  turned : (k x : K) → R k x ≡ Greater → R x k ≡ Less
  turned k x g = o.antisymm x k ∙ ap ordering_reverse g

  put_below_by : (x k y : K) (ys : List K) (r : Ordering) → R x k ≡ Less → Below x (y ∷ ys) → Below x (insert_key R ys k)
      → Below x (match_ordering r (k ∷ y ∷ ys) (y ∷ ys) (y ∷ insert_key R ys k))
  put_below_by x k y ys Less l b i = (l, b)
  put_below_by x k y ys Equal l b i = b
  put_below_by x k y ys Greater l b i = (b.0, i)

  put_below : (x k : K) (xs : List K) → R x k ≡ Less → Below x xs → Below x (insert_key R xs k)
  put_below x k [] l b = (l, tt)
  put_below x k (y ∷ ys) l b = put_below_by x k y ys (R k y) l b (put_below x k ys l b.1)

  rises_by : (k y : K) (ys : List K) (r : Ordering) → R k y ≡ r → IsStrictlySortedBy R (y ∷ ys) → IsStrictlySortedBy R (insert_key R ys k)
      → IsStrictlySortedBy R (match_ordering r (k ∷ y ∷ ys) (y ∷ ys) (y ∷ insert_key R ys k))
  unfolding IsStrictlySortedBy
  rises_by k y ys Less e s i = ((e, further k y ys e s.0), s)
  rises_by k y ys Equal e s i = s
  rises_by k y ys Greater e s i = (put_below y k ys (turned k y e) s.0, i)

  pub put_rises : (k : K) (xs : List K) → IsStrictlySortedBy R xs → IsStrictlySortedBy R (insert_key R xs k)
  unfolding IsStrictlySortedBy
  put_rises k [] s = (tt, tt)
  put_rises k (y ∷ ys) s = rises_by k y ys (R k y) refl s (put_rises k ys s.1)

  pub none_rise : IsStrictlySortedBy R []
  unfolding IsStrictlySortedBy
  none_rise = tt

  -- ---- members

  pub here : (x q : K) (xs : List K) → x ≡ q → Contains (x ∷ xs) q
  here x q xs e = (0, (let z : 0 < length (x ∷ xs) = omega arith in z), e)

  pub there : (q y : K) (ys : List K) → Contains ys q → Contains (y ∷ ys) q
  there q y ys h = Contains-append_right (y ∷ []) ys q h

  pub which : (q y : K) (ys : List K) → Contains (y ∷ ys) q → (y ≡ q) ⊎ Contains ys q
  which q y ys (zero, l, e) = inl e
  which q y ys (suc i, l, e) = inr (i, (let z : suc i < length (y ∷ ys) = l in omega (arith, z)), e)

  nowhere : (q : K) → Contains [] q → ⊥
  nowhere q (i, l, e) = let z : i < length {A = K} [] = l in omega (arith, z)

  put_in_by : (k y : K) (ys : List K) (r : Ordering) → R k y ≡ r → Contains (insert_key R ys k) k → Contains (match_ordering r (k ∷ y ∷ ys) (y ∷ ys) (y ∷ insert_key R ys k)) k
  put_in_by k y ys Less e i = here k k (y ∷ ys) refl
  put_in_by k y ys Equal e i = here y k ys (sym (apart k y e))
  put_in_by k y ys Greater e i = there k y (insert_key R ys k) i

  put_in : (k : K) (xs : List K) → Contains (insert_key R xs k) k
  put_in k [] = here k k [] refl
  put_in k (y ∷ ys) = put_in_by k y ys (R k y) refl (put_in k ys)

  kept_by : (q k y : K) (ys : List K) (r : Ordering) → (Contains ys q → Contains (insert_key R ys k) q) → Contains (y ∷ ys) q
      → Contains (match_ordering r (k ∷ y ∷ ys) (y ∷ ys) (y ∷ insert_key R ys k)) q
  kept_by q k y ys Less i h = there q k (y ∷ ys) h
  kept_by q k y ys Equal i h = h
  kept_by q k y ys Greater i h = elim (which q y ys h) [ inl e ↦ here y q (insert_key R ys k) e | inr t ↦ there q y (insert_key R ys k) (i t) ]

  kept : (q k : K) (xs : List K) → Contains xs q → Contains (insert_key R xs k) q
  kept q k [] h = absurd (nowhere q h)
  kept q k (y ∷ ys) h = kept_by q k y ys (R k y) (kept q k ys) h

  only_by : (q k y : K) (ys : List K) (r : Ordering) → (Contains (insert_key R ys k) q → (k ≡ q) ⊎ Contains ys q)
      → Contains (match_ordering r (k ∷ y ∷ ys) (y ∷ ys) (y ∷ insert_key R ys k)) q → (k ≡ q) ⊎ Contains (y ∷ ys) q
  only_by q k y ys Less i h = which q k (y ∷ ys) h
  only_by q k y ys Equal i h = inr h
  only_by q k y ys Greater i h = elim (which q y (insert_key R ys k) h) [
    | inl e ↦ inr (here y q ys e)
    | inr t ↦ elim (i t) [ inl e ↦ inl e | inr u ↦ inr (there q y ys u) ]
  ]

  only : (q k : K) (xs : List K) → Contains (insert_key R xs k) q → (k ≡ q) ⊎ Contains xs q
  only q k [] h = which q k [] h
  only q k (y ∷ ys) h = only_by q k y ys (R k y) (only q k ys) h

  pub put_stands : (q k : K) (xs : List K) → Contains (insert_key R xs k) q ↔ ((k ≡ q) ⊎ Contains xs q)
  put_stands q k xs = (only q k xs, λ h. elim h [ inl e ↦ subst (λ (z : K). Contains (insert_key R xs k) z) e (put_in k xs) | inr t ↦ kept q k xs t ])

  -- ---- one list

  less_in : (x q : K) (xs : List K) → Below x xs → Contains xs q → R x q ≡ Less
  less_in x q [] b h = absurd (nowhere q h)
  less_in x q (y ∷ ys) b h = elim (which q y ys h) [ inl e ↦ subst (λ (z : K). R x z ≡ Less) e b.0 | inr t ↦ less_in x q ys b.1 t ]

  not_both : (x y : K) → R x y ≡ Less → R y x ≡ Less → ⊥
  not_both x y l m = less_greater (sym l ∙ o.antisymm x y ∙ ap ordering_reverse m)

  same_head : (x y : K) (xs ys : List K) → Below x xs → Below y ys → Contains (y ∷ ys) x → Contains (x ∷ xs) y → x ≡ y
  same_head x y xs ys b d h i = elim (which x y ys h) [
    | inl e ↦ sym e
    | inr t ↦ elim (which y x xs i) [ inl e ↦ e | inr u ↦ absurd (not_both x y (less_in x y xs b u) (less_in y x ys d t)) ]
  ]

  behind_head : (x q : K) (xs ys : List K) → Below x xs → Contains xs q → Contains (x ∷ ys) q → Contains ys q
  behind_head x q xs ys b h i = elim (which q x ys i) [
    | inl e ↦ (let l : R x x ≡ Less = subst (λ (z : K). R x z ≡ Less) (sym e) (less_in x q xs b h) in absurd (not_both x x l l))
    | inr t ↦ t
  ]

  pub one_list : (xs ys : List K) → IsStrictlySortedBy R xs → IsStrictlySortedBy R ys → ((q : K) → Contains xs q → Contains ys q) → ((q : K) → Contains ys q → Contains xs q) → xs ≡ ys
  unfolding IsStrictlySortedBy
  one_list [] [] s t f g = refl
  one_list [] (y ∷ ys) s t f g = absurd (nowhere y (g y (here y y ys refl)))
  one_list (x ∷ xs) [] s t f g = absurd (nowhere x (f x (here x x xs refl)))
  one_list (x ∷ xs) (y ∷ ys) s t f g =
      let e : x ≡ y = same_head x y xs ys s.0 t.0 (f x (here x x xs refl)) (g y (here y y ys refl)) in
      let tails : xs ≡ ys = one_list xs ys s.1 t.1
      (λ q h. behind_head x q xs ys s.0 h (subst (λ (z : K). Contains (z ∷ ys) q) (sym e) (f q (there q x xs h))))
      (λ q h. behind_head y q ys xs t.0 h (subst (λ (z : K). Contains (z ∷ xs) q) e (g q (there q y ys h)))) in
      ap (λ (z : K). z ∷ xs) e ∙ ap (λ (zs : List K). y ∷ zs) tails

-- ---- names

with_rise : (known names : Names) → IsStrictlySortedBy text_cmp known → IsStrictlySortedBy text_cmp (with_names known names)
with_rise known [] s = s
with_rise known (n ∷ ns) s = with_rise (insert_key text_cmp known n) ns (put_rises text_cmp nat_list_cmp_total text_cmp-IsAntisymmetric n known s)

with_only : (q : List ℕ) (known names : Names) → Contains (with_names known names) q → Contains known q ⊎ Contains names q
with_only q known [] h = inl h
with_only q known (n ∷ ns) h = elim (with_only q (insert_key text_cmp known n) ns h) [
  | inl t ↦ elim ((put_stands text_cmp nat_list_cmp_total text_cmp-IsAntisymmetric q n known).0 t) [
    | inl e ↦ inr (here text_cmp nat_list_cmp_total text_cmp-IsAntisymmetric n q ns e)
    | inr u ↦ inl u
  ]
  | inr t ↦ inr (there text_cmp nat_list_cmp_total text_cmp-IsAntisymmetric q n ns t)
]

with_all : (q : List ℕ) (known names : Names) → Contains known q ⊎ Contains names q → Contains (with_names known names) q
with_all q known [] (inl h) = h
with_all q known [] (inr (i, l, e)) = absurd (let z : i < length {A = List ℕ} [] = l in omega (arith, z))
with_all q known (n ∷ ns) (inl h) =
    with_all q (insert_key text_cmp known n) ns (inl ((put_stands text_cmp nat_list_cmp_total text_cmp-IsAntisymmetric q n known).1 (inr h)))
with_all q known (n ∷ ns) (inr h) = elim (which text_cmp nat_list_cmp_total text_cmp-IsAntisymmetric q n ns h) [
  | inl e ↦ with_all q (insert_key text_cmp known n) ns (inl ((put_stands text_cmp nat_list_cmp_total text_cmp-IsAntisymmetric q n known).1 (inl e)))
  | inr t ↦ with_all q (insert_key text_cmp known n) ns (inr t)
]

from_none : (q : List ℕ) (names : Names) → Contains (with_names [] names) q → Contains names q
from_none q names h = elim (with_only q [] names h) [
  | inl (i, l, e) ↦ absurd (let z : i < length {A = List ℕ} [] = l in omega (arith, z))
  | inr t ↦ t
]

are_names : (stand : Names) → AreNames stand (with_names [] stand)
are_names stand = record {
  rises = with_rise [] stand (none_rise text_cmp nat_list_cmp_total text_cmp-IsAntisymmetric);
  stands = λ q. (from_none q stand, λ h. with_all q [] stand (inr h));
}

pub visible_are_sorted : VisibleAreSorted
unfolding visible
visible_are_sorted pattern = are_names (names_in pattern)

pub named_are_sorted : NamedAreSorted
unfolding named
named_are_sorted pattern = are_names (all_names_in pattern)

pub one_visible : OneVisible
one_visible pattern a b h k =
    one_list text_cmp nat_list_cmp_total text_cmp-IsAntisymmetric a b h.rises k.rises (λ q t. (k.stands q).1 ((h.stands q).0 t)) (λ q t. (h.stands q).1 ((k.stands q).0 t))
