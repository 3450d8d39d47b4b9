-- Mappings by what they bind: walks from one column that has a term to the next.
use Rattle.std.proofs.Common.{◌≡◌, ℕ, zero, suc, ◌+◌, ◌<◌, ◌≤◌, inl, inr, min, Bool, true, false, ◌&&◌, ◌||◌, not, List, [], ◌∷◌, length, take, set, Option, Some, None, is_none, is_some, refl, sym, ap, ◌∙◌, subst, arith, cond, ◌==◌, true≢false}
use Rattle.std.proofs.lemmas.Bool.{and_from, both_ways, cases_lt, cases_order, eq-eqb, le-ltb, lt-ltb, ne_eqb}
use Rattle.std.proofs.lemmas.List.{get_or-set_same, get_or-set_other, length-set}
use Rattle.std.specs.List.{list_all, list_any, zip}
use Rattle.std.specs.Option.{option_cmp}
use Rattle.std.specs.Cmp.{tied_itself}
use Rattle.std.specs.Ordering.{is_eq, is_ne, match_ordering, nat_cmp, ordering_then}
use Rattle.std.specs.declared.cmp.Ordering.{Ordering}
use Rattle.std.specs.declared.cmp.Ordering.TheVariants.{Less, Equal, Greater}
use Rattle.rdf_terms.specs.Order.{term_cmp}
use Rattle.rdf_terms.specs.OrderLaws.{term_cmp_total}
use Rattle.rdf_terms.specs.declared.term.Term.{Term}
use Rattle.sparql_values.specs.Mapping.{Mapping, first_of, merge, value_at}
use Rattle.sparql_values.specs.NextBound.{IsFirstFrom, IsNextBound}
use Rattle.sparql_algebra.proofs.CallerLemmas.{same_term_is}
use Rattle.sparql_algebra.specs.Order.{mapping_cmp}
use Rattle.sparql_algebra.specs.Solutions.{both_have, shares}
use Rattle.sparql_solve.specs.Pairs.{PutsAt, holds}
use Rattle.sparql_solve.specs.Under.{binds_none}
use Rattle.sparql_solve.specs.declared.values.Pair.{Pair}
use Rattle.sparql_solve.specs.declared.values.Pair.TheVariants.{Agree, Lie, Apart}

-- ---- what holds of each pair

-- of nothing and anything
pub holds_none : (p : Pair) (y : Option Term) → holds p (None, y) ≡ true
holds_none Agree y = refl
holds_none Lie y = refl
holds_none Apart y = refl

and_false : (b : Bool) → (b && false) ≡ false
and_false true = refl
and_false false = refl

module _ (p : Pair) where
  all_hold_true : (a b : Mapping) → ((i : ℕ) → i < length a → i < length b → holds p (value_at a i, value_at b i) ≡ true) → list_all (holds p) (zip a b) ≡ true
  all_hold_true [] b h = refl
  all_hold_true (x ∷ a) [] h = refl
  all_hold_true (x ∷ a) (y ∷ b) h =
      and_from (holds p (x, y)) (list_all (holds p) (zip a b)) (h zero (omega arith) (omega arith)) (all_hold_true a b (λ i l k. h (suc i) (omega (arith, l)) (omega (arith, k))))

  pub all_hold_false : (a b : Mapping) (i : ℕ) → i < length a → i < length b → holds p (value_at a i, value_at b i) ≡ false → list_all (holds p) (zip a b) ≡ false
  all_hold_false [] b i l k e = absurd (omega (arith, l))
  all_hold_false (x ∷ a) [] i l k e = absurd (omega (arith, k))
  all_hold_false (x ∷ a) (y ∷ b) zero l k e = ap (λ t. t && list_all (holds p) (zip a b)) e
  all_hold_false (x ∷ a) (y ∷ b) (suc i) l k e =
      ap (λ t. holds p (x, y) && t) (all_hold_false a b i (omega (arith, l)) (omega (arith, k)) e) ∙ and_false (holds p (x, y))

  -- it holds before the column
  abbrev pub HoldBelow : Mapping → Mapping → ℕ → Type 0
  HoldBelow a b from = (i : ℕ) → i < from → holds p (value_at a i, value_at b i) ≡ true

  hold_where_none : (a b : Mapping) (i : ℕ) → value_at a i ≡ None → holds p (value_at a i, value_at b i) ≡ true
  hold_where_none a b i e = ap (λ x. holds p (x, value_at b i)) e ∙ holds_none p (value_at b i)

  pub hold_next : (a b : Mapping) (from column : ℕ) → HoldBelow a b from → IsFirstFrom a from column → holds p (value_at a column, value_at b column) ≡ true →
      HoldBelow a b (column + 1)
  hold_next a b from column h first e i l =
      elim (cases_lt i from) [
        | inl k ↦ h i k
        | inr k ↦ elim (cases_lt i column) [
          | inl m ↦ hold_where_none a b i (first.none_between i k m)
          | inr m ↦ subst (λ n. holds p (value_at a n, value_at b n) ≡ true) (omega (arith, l, m)) e
        ]
      ]

  -- no column behind these is of both
  pub hold_past : (a b : Mapping) (from column : ℕ) → HoldBelow a b from → IsFirstFrom a from column → min (length a) (length b) ≤ column →
      list_all (holds p) (zip a b) ≡ true
  hold_past a b from column h first le =
      all_hold_true a b (λ i l k. elim (cases_lt i from) [
        | inl m ↦ h i m
        | inr m ↦ hold_where_none a b i (first.none_between i m (omega (arith, l, k, le)))
      ])

  -- no other column has a term
  pub hold_all : (a b : Mapping) (from : ℕ) → HoldBelow a b from → IsNextBound a from None → list_all (holds p) (zip a b) ≡ true
  hold_all a b from h none =
      all_hold_true a b (λ i l k. elim (cases_lt i from) [
        | inl m ↦ h i m
        | inr m ↦ hold_where_none a b i (none i m)
      ])

not_both : (t b : Bool) → not (not t && b) ≡ (t || not b)
not_both true b = refl
not_both false b = refl

not_apart : (ps : List (Option Term × Option Term)) → not (list_all (holds Apart) ps) ≡ list_any both_have ps
not_apart [] = refl
not_apart (q ∷ ps) = not_both (both_have q) (list_all (holds Apart) ps) ∙ ap (λ b. both_have q || b) (not_apart ps)

-- they share a variable where not all are apart
pub shares_not_apart : (a b : Mapping) → not (list_all (holds Apart) (zip a b)) ≡ shares a b
shares_not_apart a b = not_apart (zip a b)

-- ---- nothing bound

pub binds_none_true : (m : Mapping) → ((i : ℕ) → value_at m i ≡ None) → binds_none m ≡ true
binds_none_true [] h = refl
binds_none_true (x ∷ m) h = and_from (is_none x) (binds_none m) (ap is_none (h zero)) (binds_none_true m (λ i. h (suc i)))

pub binds_none_false : (m : Mapping) (i : ℕ) → is_some (value_at m i) ≡ true → binds_none m ≡ false
binds_none_false [] i e = absurd (both_ways false refl e)
binds_none_false (Some t ∷ m) i e = refl
binds_none_false (None ∷ m) zero e = absurd (both_ways false refl e)
binds_none_false (None ∷ m) (suc i) e = binds_none_false m i e

-- ---- merges

merge_is : (a b out : Mapping) → length out ≡ length (take (length b) a) → ((i : ℕ) → i < length out → value_at out i ≡ first_of (value_at a i, value_at b i)) → out ≡ merge a b
merge_is [] [] [] e h = refl
merge_is [] (y ∷ b) [] e h = refl
merge_is [] [] (z ∷ out) e h = absurd (omega (arith, e))
merge_is [] (y ∷ b) (z ∷ out) e h = absurd (omega (arith, e))
merge_is (x ∷ a) [] [] e h = refl
merge_is (x ∷ a) [] (z ∷ out) e h = absurd (omega (arith, e))
merge_is (x ∷ a) (y ∷ b) [] e h = absurd (omega (arith, e))
merge_is (x ∷ a) (y ∷ b) (z ∷ out) e h =
    ap (λ (v : Option Term). v ∷ out) (h zero (omega arith))
    ∙ ap (λ (vs : Mapping). first_of (x, y) ∷ vs) (merge_is a b out (omega (arith, e)) (λ i l. h (suc i) (omega (arith, l))))

value_at_take : (a : Mapping) (n i : ℕ) → i < length (take n a) → value_at (take n a) i ≡ value_at a i
value_at_take [] zero i l = refl
value_at_take [] (suc n) i l = refl
value_at_take (x ∷ a) zero i l = absurd (omega (arith, l))
value_at_take (x ∷ a) (suc n) zero l = refl
value_at_take (x ∷ a) (suc n) (suc i) l = value_at_take a n i (omega (arith, l))

-- so far merged: below the column both, from there on the first alone
pub record IsMergedBelow (a b out : Mapping) (from : ℕ) : Type 0 where
  pub len : length out ≡ length (take (length b) a)
  pub below : (i : ℕ) → i < from → i < length out → value_at out i ≡ first_of (value_at a i, value_at b i)
  pub above : (i : ℕ) → from ≤ i → i < length out → value_at out i ≡ value_at a i

pub merged_none : (a b out : Mapping) → out ≡ take (length b) a → IsMergedBelow a b out 0
merged_none a b out e = record {
  len = ap length e;
  below = λ i l k. absurd (omega (arith, l));
  above = λ i l k. ap (λ (m : Mapping). value_at m i) e ∙ value_at_take a (length b) i (subst (λ (m : Mapping). i < length m) e k);
}

first_of_none : (x : Option Term) → first_of (x, None) ≡ x
first_of_none (Some t) = refl
first_of_none None = refl

pub merged_next : (a b out new : Mapping) (from column : ℕ) → IsMergedBelow a b out from → IsFirstFrom b from column →
    PutsAt out new column (first_of (value_at out column, value_at b column)) → IsMergedBelow a b new (column + 1)
merged_next a b out new from column h first put = record {
  len = put.len ∙ h.len;
  below = λ i l k. elim (cases_lt i from) [
    | inl m ↦ put.others i (omega (arith, m, first.after)) ∙ h.below i m (omega (arith, k, put.len))
    | inr m ↦ elim (cases_lt i column) [
      | inl o ↦ put.others i (omega (arith, o)) ∙ h.above i m (omega (arith, k, put.len))
          ∙ sym (ap (λ y. first_of (value_at a i, y)) (first.none_between i m o) ∙ first_of_none (value_at a i))
      | inr o ↦
          let here : i ≡ column = omega (arith, l, o) in
          let within : column < length out = omega (arith, k, put.len, here) in
          subst (λ n. value_at new n ≡ first_of (value_at a n, value_at b n)) (sym here)
          (put.here within ∙ ap (λ x. first_of (x, value_at b column)) (h.above column first.after within))
    ]
  ];
  above = λ i l k. put.others i (omega (arith, l)) ∙ h.above i (omega (arith, l, first.after)) (omega (arith, k, put.len));
}

pub merged_all : (a b out : Mapping) (from : ℕ) → IsMergedBelow a b out from → IsNextBound b from None → out ≡ merge a b
merged_all a b out from h none =
    merge_is a b out h.len (λ i l. elim (cases_lt i from) [
      | inl m ↦ h.below i m l
      | inr m ↦ h.above i m l ∙ sym (ap (λ y. first_of (value_at a i, y)) (none i m) ∙ first_of_none (value_at a i))
    ])

-- ---- what is put

pub puts_term : (m new : Mapping) (column : ℕ) (value : Option Term) → new ≡ set m column value → PutsAt m new column value
puts_term m new column value e = record {
  len = ap length e ∙ length-set m column value;
  here = λ l. ap (λ (z : Mapping). value_at z column) e ∙ get_or-set_same m column value None l;
  others = λ i ne. ap (λ (z : Mapping). value_at z i) e ∙ get_or-set_other m column i value None ne;
}

-- nothing is put, since it is there
pub puts_same : (m new : Mapping) (column : ℕ) (value : Option Term) → new ≡ m → value_at m column ≡ value → PutsAt m new column value
puts_same m new column value e is = record {
  len = ap length e;
  here = λ l. ap (λ (z : Mapping). value_at z column) e ∙ is;
  others = λ i ne. ap (λ (z : Mapping). value_at z i) e;
}

pub first_of_some : (x y : Option Term) → is_some x ≡ true → x ≡ first_of (x, y)
first_of_some (Some s) y e = refl
first_of_some None y e = absurd (both_ways false refl e)

-- ---- order

-- two mappings are the same before the column
abbrev pub SameBefore : Mapping → Mapping → ℕ → Type 0
SameBefore a b from = (i : ℕ) → i < from → value_at a i ≡ value_at b i

value_tied : (x : Option Term) → option_cmp term_cmp x x ≡ Equal
value_tied (Some t) = tied_itself term_cmp_total t
value_tied None = refl

-- where they are the same before a column, the values there decide, if they aren't equal
pub cmp_at : (a b : Mapping) (k : ℕ) (o : Ordering) → SameBefore a b k → k < length a → k < length b → option_cmp term_cmp (value_at a k) (value_at b k) ≡ o →
    (o ≡ Equal → ⊥) → mapping_cmp a b ≡ o
cmp_at [] b k o h l m e ne = absurd (omega (arith, l))
cmp_at (x ∷ a) [] k o h l m e ne = absurd (omega (arith, m))
cmp_at (x ∷ a) (y ∷ b) zero Less h l m e ne = ap (λ v. ordering_then v (mapping_cmp a b)) e
cmp_at (x ∷ a) (y ∷ b) zero Equal h l m e ne = absurd (ne refl)
cmp_at (x ∷ a) (y ∷ b) zero Greater h l m e ne = ap (λ v. ordering_then v (mapping_cmp a b)) e
cmp_at (x ∷ a) (y ∷ b) (suc k) o h l m e ne =
    ap (λ z. ordering_then (option_cmp term_cmp x z) (mapping_cmp a b)) (sym (h zero (omega arith)))
    ∙ ap (λ v. ordering_then v (mapping_cmp a b)) (value_tied x)
    ∙ cmp_at a b k o (λ i n. h (suc i) (omega (arith, n))) (omega (arith, l)) (omega (arith, m)) e ne

-- and else their lengths
cmp_longer : (a b : Mapping) → SameBefore a b (length b) → length b < length a → mapping_cmp a b ≡ Greater
cmp_longer [] b h l = absurd (omega (arith, l))
cmp_longer (x ∷ a) [] h l = refl
cmp_longer (x ∷ a) (y ∷ b) h l =
    ap (λ z. ordering_then (option_cmp term_cmp x z) (mapping_cmp a b)) (sym (h zero (omega arith)))
    ∙ ap (λ v. ordering_then v (mapping_cmp a b)) (value_tied x)
    ∙ cmp_longer a b (λ i n. h (suc i) (omega (arith, n))) (omega (arith, l))

cmp_shorter : (a b : Mapping) → SameBefore a b (length a) → length a < length b → mapping_cmp a b ≡ Less
cmp_shorter a [] h l = absurd (omega (arith, l))
cmp_shorter [] (y ∷ b) h l = refl
cmp_shorter (x ∷ a) (y ∷ b) h l =
    ap (λ z. ordering_then (option_cmp term_cmp x z) (mapping_cmp a b)) (sym (h zero (omega arith)))
    ∙ ap (λ v. ordering_then v (mapping_cmp a b)) (value_tied x)
    ∙ cmp_shorter a b (λ i n. h (suc i) (omega (arith, n))) (omega (arith, l))

cmp_same : (a b : Mapping) → SameBefore a b (length a) → length a ≡ length b → mapping_cmp a b ≡ Equal
cmp_same [] [] h e = refl
cmp_same [] (y ∷ b) h e = absurd (omega (arith, e))
cmp_same (x ∷ a) [] h e = absurd (omega (arith, e))
cmp_same (x ∷ a) (y ∷ b) h e =
    ap (λ z. ordering_then (option_cmp term_cmp x z) (mapping_cmp a b)) (sym (h zero (omega arith)))
    ∙ ap (λ v. ordering_then v (mapping_cmp a b)) (value_tied x)
    ∙ cmp_same a b (λ i n. h (suc i) (omega (arith, n))) (omega (arith, e))

nat_less : (x y : ℕ) → x < y → nat_cmp x y ≡ Less
nat_less x y l = ap (λ t. cond t Less (cond (x == y) Equal Greater)) (lt-ltb x y l)

nat_greater : (x y : ℕ) → y < x → nat_cmp x y ≡ Greater
nat_greater x y l =
    ap (λ t. cond t Less (cond (x == y) Equal Greater)) (le-ltb x y (omega (arith, l)))
    ∙ ap (λ t. cond t Equal Greater) (ne_eqb x y (omega (arith, l)))

nat_tied : (x y : ℕ) → x ≡ y → nat_cmp x y ≡ Equal
nat_tied x y e =
    ap (λ t. cond t Less (cond (x == y) Equal Greater)) (le-ltb x y (omega (arith, e))) ∙ ap (λ t. cond t Equal Greater) (eq-eqb x y e)

-- the same before the next columns that have a term
same_further : (a b : Mapping) (from i : ℕ) → SameBefore a b from → ((k : ℕ) → from ≤ k → k < i → value_at a k ≡ None) →
    ((k : ℕ) → from ≤ k → k < i → value_at b k ≡ None) → SameBefore a b i
same_further a b from i h x y k l =
    elim (cases_lt k from) [
      | inl m ↦ h k m
      | inr m ↦ x k m l ∙ sym (y k m l)
    ]

above_nothing : (a b : Mapping) (i : ℕ) → is_some (value_at a i) ≡ true → value_at b i ≡ None → option_cmp term_cmp (value_at a i) (value_at b i) ≡ Greater
above_nothing a b i some none = ap (λ y. option_cmp term_cmp (value_at a i) y) none ∙ by_value (value_at a i) some
  where
    by_value : (x : Option Term) → is_some x ≡ true → option_cmp term_cmp x None ≡ Greater
    by_value (Some t) e = refl
    by_value None e = absurd (both_ways false refl e)

below_something : (a b : Mapping) (i : ℕ) → value_at a i ≡ None → is_some (value_at b i) ≡ true → option_cmp term_cmp (value_at a i) (value_at b i) ≡ Less
below_something a b i none some = ap (λ x. option_cmp term_cmp x (value_at b i)) none ∙ by_value (value_at b i) some
  where
    by_value : (y : Option Term) → is_some y ≡ true → option_cmp term_cmp None y ≡ Less
    by_value (Some t) e = refl
    by_value None e = absurd (both_ways false refl e)

greater_apart : Greater ≡ Equal → ⊥
greater_apart e = true≢false (ap (λ (o : Ordering). match_ordering o false false true) e)

less_apart : Less ≡ Equal → ⊥
less_apart e = true≢false (ap (λ (o : Ordering). match_ordering o true false false) e)

-- only the first has a term more
pub cmp_first_more : (a b : Mapping) (from c : ℕ) → SameBefore a b from → IsFirstFrom a from c → IsNextBound b from None → c < length a → mapping_cmp a b ≡ Greater
cmp_first_more a b from c h first none l =
    let same = same_further a b from c h first.none_between (λ k x y. none k x) in
    elim (cases_lt c (length b)) [
      | inl m ↦ cmp_at a b c Greater same l m (above_nothing a b c first.bound (none c first.after)) greater_apart
      | inr m ↦ cmp_longer a b (λ i n. same i (omega (arith, n, m))) (omega (arith, l, m))
    ]

-- only the second
pub cmp_second_more : (a b : Mapping) (from c : ℕ) → SameBefore a b from → IsNextBound a from None → IsFirstFrom b from c → c < length b → mapping_cmp a b ≡ Less
cmp_second_more a b from c h none first l =
    let same = same_further a b from c h (λ k x y. none k x) first.none_between in
    elim (cases_lt c (length a)) [
      | inl m ↦ cmp_at a b c Less same m l (below_something a b c (none c first.after) first.bound) less_apart
      | inr m ↦ cmp_shorter a b (λ i n. same i (omega (arith, n, m))) (omega (arith, l, m))
    ]

-- both, and one of them further left
pub cmp_apart : (a b : Mapping) (from c d : ℕ) → SameBefore a b from → IsFirstFrom a from c → IsFirstFrom b from d → c < length a → d < length b → (c ≡ d → ⊥) →
    mapping_cmp a b ≡ nat_cmp d c
cmp_apart a b from c d h x y l m ne =
    elim (cases_lt c d) [
      | inl k ↦
          let same = same_further a b from c h x.none_between (λ i n o. y.none_between i n (omega (arith, o, k))) in
          cmp_at a b c Greater same l (omega (arith, k, m)) (above_nothing a b c x.bound (y.none_between c x.after k)) greater_apart ∙ sym (nat_greater d c k)
      | inr k ↦
          let less : d < c = omega (arith, k, ne) in
          let same = same_further a b from d h (λ i n o. x.none_between i n (omega (arith, o, less))) y.none_between in
          cmp_at a b d Less same (omega (arith, less, l)) m (below_something a b d (x.none_between d y.after less) y.bound) less_apart ∙ sym (nat_less d c less)
    ]

-- no other column has a term
pub cmp_lengths : (a b : Mapping) (from : ℕ) → SameBefore a b from → IsNextBound a from None → IsNextBound b from None → mapping_cmp a b ≡ nat_cmp (length a) (length b)
cmp_lengths a b from h x y =
    let same : (n : ℕ) → SameBefore a b n = λ n. λ i l. elim (cases_lt i from) [
      | inl m ↦ h i m
      | inr m ↦ x i m ∙ sym (y i m)
    ] in
    elim (cases_order (length a) (length b)) [
      | inl e ↦ cmp_same a b (same (length a)) e ∙ sym (nat_tied (length a) (length b) e)
      | inr (inl l) ↦ cmp_shorter a b (same (length a)) l ∙ sym (nat_less (length a) (length b) l)
      | inr (inr l) ↦ cmp_longer a b (same (length b)) l ∙ sym (nat_greater (length a) (length b) l)
    ]

-- the values at the column decide
pub cmp_here : (a b : Mapping) (from c : ℕ) (o : Ordering) → SameBefore a b from → IsFirstFrom a from c → IsFirstFrom b from c → c < length a → c < length b →
    o ≡ option_cmp term_cmp (value_at a c) (value_at b c) → (o ≡ Equal → ⊥) → o ≡ mapping_cmp a b
cmp_here a b from c o h x y l m e ne = sym (cmp_at a b c o (same_further a b from c h x.none_between y.none_between) l m (sym e) ne)

-- or are the same
pub same_next : (a b : Mapping) (from c : ℕ) → SameBefore a b from → IsFirstFrom a from c → IsFirstFrom b from c →
    option_cmp term_cmp (value_at a c) (value_at b c) ≡ Equal → SameBefore a b (c + 1)
same_next a b from c h x y e i l =
    elim (cases_lt i c) [
      | inl m ↦ same_further a b from c h x.none_between y.none_between i m
      | inr m ↦ subst (λ n. value_at a n ≡ value_at b n) (omega (arith, l, m)) (by_values (value_at a c) (value_at b c) e)
    ]
  where
    by_values : (u v : Option Term) → option_cmp term_cmp u v ≡ Equal → u ≡ v
    by_values (Some s) (Some t) k = ap Some (same_term_is s t (ap is_eq k))
    by_values (Some s) None k = absurd (greater_apart k)
    by_values None (Some t) k = absurd (less_apart k)
    by_values None None k = refl

-- ---- nothing is bound where there is no first column that has a term

pub unbound_by_next : (m : Mapping) (o : Option ℕ) (b : Bool) → IsNextBound m 0 o → is_some o ≡ not b → b ≡ binds_none m
unbound_by_next m (Some c) true h e = absurd (both_ways false refl (sym e))
unbound_by_next m (Some c) false h e = sym (binds_none_false m c h.bound)
unbound_by_next m None true h e = sym (binds_none_true m (λ i. h i (omega arith)))
unbound_by_next m None false h e = absurd (both_ways false refl e)

-- ---- whether two values are equal

pub ne_apart : (o : Ordering) (b : Bool) → b ≡ is_ne o → b ≡ true → o ≡ Equal → ⊥
ne_apart o b e k q = true≢false (sym k ∙ e ∙ ap is_ne q)

pub eq_from : (o : Ordering) (b : Bool) → b ≡ is_ne o → b ≡ false → o ≡ Equal
eq_from Less b e k = absurd (true≢false (sym e ∙ k))
eq_from Equal b e k = refl
eq_from Greater b e k = absurd (true≢false (sym e ∙ k))
