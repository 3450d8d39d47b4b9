-- Sorted rows of which each stands once.
use Rattle.std.proofs.Common.{◌≡◌, ℕ, zero, suc, ◌+◌, ◌<◌, ◌≤◌, Bool, true, false, cond, not, ◌&&◌, List, [], ◌∷◌, ◌++◌, map, refl, sym, ap, ◌∙◌, append_assoc, append-nil, arith, subst, length, drop, get_or}
use mathlib.Core.Bool.{true≢false}
use Rattle.std.specs.List.{count_by, list_all, dedup, dedup_from}
use Rattle.std.specs.List.Sorted.{IsSorted, IsPermutation}
use Rattle.std.specs.Ordering.{is_eq, eq_by_cmp}
use Rattle.std.specs.Cmp.{Equal-is, tied_itself}
use Rattle.std.proofs.lemmas.List.{drop_all, drop_more}
use Rattle.std.proofs.lemmas.List.Sums.{sum_by-append, sum_by-cons}
use Rattle.std.proofs.lemmas.List.Sorted.{sum_by-IsPermutation}
use Rattle.sparql_algebra.specs.Bags.{once_if_any}
use Rattle.sparql_values.specs.Mapping.{Mapping, same_mapping}
use Rattle.sparql_algebra.specs.Order.{mapping_cmp}
use Rattle.sparql_algebra.specs.Results.{times_selected}
use Rattle.sparql_algebra.proofs.CallerLemmas.{one, counted_once, and_left, and_right, same_mapping_is, mapping_total, less, Rises, not_true, rises_from, sorted_from, leads_counted, neither_less, mapping_cmp-IsAntisymmetric}

abbrev same : Mapping → Mapping → Bool
same = eq_by_cmp mapping_cmp

same_own : (x : Mapping) → same x x ≡ true
same_own x = ap is_eq (tied_itself mapping_total x)

-- ---- repeats left out

same_is : (x y : Mapping) → same x y ≡ true → x ≡ y
same_is x y h = mapping_cmp-IsAntisymmetric x y ((Equal-is (mapping_cmp x y)).0 h)

once_of : (b : Bool) (n : ℕ) → n ≡ one b → n ≡ once_if_any n
once_of true n e = e ∙ sym (ap once_if_any e)
once_of false n e = e ∙ sym (ap once_if_any e)

zero_unless : (n : ℕ) → (0 < n → ⊥) → n ≡ 0
zero_unless zero h = refl
zero_unless (suc n) h = absurd (h (omega arith))

counted : (m x : Mapping) (xs : List Mapping) → count_by (same_mapping m) (x ∷ xs) ≡ one (same_mapping m x) + count_by (same_mapping m) xs
counted m x xs = sum_by-cons _ x xs

-- a row that isn't the first of a rising list behind it doesn't stand there
not_behind : (k x : Mapping) (xs : List Mapping) → Rises (k ∷ x ∷ xs) → same x k ≡ false → count_by (same_mapping k) (x ∷ xs) ≡ 0
not_behind k x xs r e = zero_unless (count_by (same_mapping k) (x ∷ xs)) no
  where
    no : 0 < count_by (same_mapping k) (x ∷ xs) → ⊥
    no p =
        let is : k ≡ x = neither_less k x (leads_counted k x xs r.1.0 p) (not_true (less x k) (and_left (not (less x k)) _ r.0)) in
        let tie : same x k ≡ true = ap (λ (z : Mapping). same x z) is ∙ same_own x in
        true≢false (sym tie ∙ e)

repeats_counted : (m k : Mapping) (xs : List Mapping) → Rises (k ∷ xs) →
    count_by (same_mapping m) (dedup_from same k xs) ≡ once_if_any (count_by (same_mapping m) (k ∷ xs))
repeats_counted m k [] r = once_of (same_mapping m k) (count_by (same_mapping m) (k ∷ [])) (only (counted m k []))
  where
    only : count_by (same_mapping m) (k ∷ []) ≡ one (same_mapping m k) + 0 → count_by (same_mapping m) (k ∷ []) ≡ one (same_mapping m k)
    only e = omega (arith, e)
repeats_counted m k (x ∷ xs) r = by_same (same x k) refl (repeats_counted m k xs (and_right (not (less x k)) _ r.0, r.1.1)) (repeats_counted m x xs r.1)
  where
    all : count_by (same_mapping m) (k ∷ x ∷ xs) ≡ one (same_mapping m k) + count_by (same_mapping m) (x ∷ xs)
    all = counted m k (x ∷ xs)

    again : (b : Bool) → same_mapping m k ≡ b → same_mapping m x ≡ b →
        once_if_any (count_by (same_mapping m) (k ∷ xs)) ≡ once_if_any (count_by (same_mapping m) (k ∷ x ∷ xs))
    again true e f =
        let one_k : one (same_mapping m k) ≡ 1 = ap one e in
        counted_once (count_by (same_mapping m) (k ∷ xs)) (omega (arith, one_k, counted m k xs))
        ∙ sym (counted_once (count_by (same_mapping m) (k ∷ x ∷ xs)) (omega (arith, one_k, all)))
    again false e f =
        let none_k : one (same_mapping m k) ≡ 0 = ap one e in
        let none_x : one (same_mapping m x) ≡ 0 = ap one f in
        let is : count_by (same_mapping m) (k ∷ xs) ≡ count_by (same_mapping m) (k ∷ x ∷ xs) = omega (arith, none_k, none_x, all, counted m k xs, counted m x xs) in
        ap once_if_any is

    new : (b : Bool) → same_mapping m k ≡ b → same x k ≡ false → count_by (same_mapping m) (dedup_from same x xs) ≡ once_if_any (count_by (same_mapping m) (x ∷ xs)) →
        count_by (same_mapping m) (k ∷ dedup_from same x xs) ≡ once_if_any (count_by (same_mapping m) (k ∷ x ∷ xs))
    new true e f h =
        let one_k : one (same_mapping m k) ≡ 1 = ap one e in
        let none : count_by (same_mapping m) (x ∷ xs) ≡ 0 = ap (λ (z : Mapping). count_by (same_mapping z) (x ∷ xs)) (same_mapping_is m k e) ∙ not_behind k x xs r f in
        let rest : once_if_any (count_by (same_mapping m) (x ∷ xs)) ≡ 0 = ap once_if_any none in
        let left : count_by (same_mapping m) (k ∷ dedup_from same x xs) ≡ 1 = omega (arith, counted m k (dedup_from same x xs), one_k, h, rest) in
        left ∙ sym (counted_once (count_by (same_mapping m) (k ∷ x ∷ xs)) (omega (arith, one_k, all)))
    new false e f h =
        let none_k : one (same_mapping m k) ≡ 0 = ap one e in
        let is : count_by (same_mapping m) (x ∷ xs) ≡ count_by (same_mapping m) (k ∷ x ∷ xs) = omega (arith, none_k, all) in
        let left : count_by (same_mapping m) (k ∷ dedup_from same x xs) ≡ count_by (same_mapping m) (dedup_from same x xs) =
        omega (arith, counted m k (dedup_from same x xs), none_k) in
        left ∙ h ∙ ap once_if_any is

    by_same : (b : Bool) → same x k ≡ b →
        count_by (same_mapping m) (dedup_from same k xs) ≡ once_if_any (count_by (same_mapping m) (k ∷ xs)) →
        count_by (same_mapping m) (dedup_from same x xs) ≡ once_if_any (count_by (same_mapping m) (x ∷ xs)) →
        count_by (same_mapping m) (cond b (dedup_from same k xs) (k ∷ dedup_from same x xs)) ≡ once_if_any (count_by (same_mapping m) (k ∷ x ∷ xs))
    by_same true e h j = h ∙ again (same_mapping m k) refl (ap (same_mapping m) (same_is x k e))
    by_same false e h j = new (same_mapping m k) refl e j

all_kept : (p : Mapping → Bool) (k : Mapping) (xs : List Mapping) → p k ≡ true → list_all p xs ≡ true → list_all p (dedup_from same k xs) ≡ true
all_kept p k [] h j = ap (λ b. b && true) h
all_kept p k (x ∷ xs) h j = by_same (same x k) (all_kept p k xs h (and_right (p x) _ j)) (all_kept p x xs (and_left (p x) _ j) (and_right (p x) _ j))
  where
    by_same : (b : Bool) → list_all p (dedup_from same k xs) ≡ true → list_all p (dedup_from same x xs) ≡ true →
        list_all p (cond b (dedup_from same k xs) (k ∷ dedup_from same x xs)) ≡ true
    by_same true a b = a
    by_same false a b = ap (λ t. t && list_all p (dedup_from same x xs)) h ∙ b

kept_rises : (k : Mapping) (xs : List Mapping) → Rises (k ∷ xs) → Rises (dedup_from same k xs)
kept_rises k [] r = (refl, tt)
kept_rises k (x ∷ xs) r = by_same (same x k) (kept_rises k xs (and_right (not (less x k)) _ r.0, r.1.1)) (kept_rises x xs r.1)
  where
    by_same : (b : Bool) → Rises (dedup_from same k xs) → Rises (dedup_from same x xs) → Rises (cond b (dedup_from same k xs) (k ∷ dedup_from same x xs))
    by_same true a b = a
    by_same false a b = (all_kept (λ y. not (less y k)) x xs (and_left (not (less x k)) _ r.0) (and_right (not (less x k)) _ r.0), b)

pub kept_sorted : (rows out : List Mapping) → IsSorted mapping_cmp rows → out ≡ dedup same rows → IsSorted mapping_cmp out
kept_sorted [] out h e = subst (IsSorted mapping_cmp) (sym e) h
kept_sorted (k ∷ xs) out h e = subst (IsSorted mapping_cmp) (sym e) (sorted_from (dedup_from same k xs) (kept_rises k xs (rises_from (k ∷ xs) h)))

kept_counted : (rows : List Mapping) → IsSorted mapping_cmp rows → (m : Mapping) → count_by (same_mapping m) (dedup same rows) ≡ once_if_any (count_by (same_mapping m) rows)
kept_counted [] h m = refl
kept_counted (k ∷ xs) h m = repeats_counted m k xs (rises_from (k ∷ xs) h)

pub ordered_distinct : (old rows out : List Mapping) (b : Bool) → b ≡ true → IsPermutation old rows → IsSorted mapping_cmp rows → out ≡ dedup same rows →
    (m : Mapping) → count_by (same_mapping m) out ≡ times_selected b (count_by (same_mapping m) old)
ordered_distinct old rows out b t p h e m =
    ap (count_by (same_mapping m)) e ∙ kept_counted rows h m ∙ ap once_if_any (sum_by-IsPermutation (λ x. cond (same_mapping m x) 1 0) old rows p)
    ∙ ap (λ c. times_selected c (count_by (same_mapping m) old)) (sym t)

pub ordered_all : (old rows : List Mapping) (b : Bool) → IsPermutation old rows → b ≡ false →
    (m : Mapping) → count_by (same_mapping m) rows ≡ times_selected b (count_by (same_mapping m) old)
ordered_all old rows b p t m =
    sum_by-IsPermutation (λ x. cond (same_mapping m x) 1 0) old rows p ∙ ap (λ c. times_selected c (count_by (same_mapping m) old)) (sym t)

-- ---- repeats of a row that stands there already

counted_both : (m : Mapping) (xs ys : List Mapping) → count_by (same_mapping m) (xs ++ ys) ≡ count_by (same_mapping m) xs + count_by (same_mapping m) ys
counted_both m xs ys = sum_by-append (λ x. cond (same_mapping m x) 1 0) xs ys

repeat_counted : (m k : Mapping) (out rest : List Mapping) → 0 < count_by (same_mapping k) out →
    once_if_any (count_by (same_mapping m) (out ++ rest)) ≡ once_if_any (count_by (same_mapping m) (out ++ k ∷ rest))
repeat_counted m k out rest h = by_same (same_mapping m k) refl
  where
    by_same : (b : Bool) → same_mapping m k ≡ b → once_if_any (count_by (same_mapping m) (out ++ rest)) ≡ once_if_any (count_by (same_mapping m) (out ++ k ∷ rest))
    by_same true e =
        let there : 0 < count_by (same_mapping m) out = subst (λ (z : Mapping). 0 < count_by (same_mapping z) out) (sym (same_mapping_is m k e)) h in
        counted_once (count_by (same_mapping m) (out ++ rest)) (omega (arith, there, counted_both m out rest))
        ∙ sym (counted_once (count_by (same_mapping m) (out ++ k ∷ rest)) (omega (arith, there, counted_both m out (k ∷ rest))))
    by_same false e =
        let none_k : one (same_mapping m k) ≡ 0 = ap one e in
        let is : count_by (same_mapping m) (out ++ rest) ≡ count_by (same_mapping m) (out ++ k ∷ rest) =
        omega (arith, none_k, counted m k rest, counted_both m out rest, counted_both m out (k ∷ rest)) in
        ap once_if_any is

module _ (f : Mapping → Mapping) (rows : List Mapping) (i : ℕ) (row : Mapping) (out : List Mapping) (distinct : Bool) (lt : i < length rows)
    (here : row ≡ get_or rows i row)
    (h : (m : Mapping) → times_selected distinct (count_by (same_mapping m) (out ++ map f (drop i rows))) ≡ times_selected distinct (count_by (same_mapping m) (map f rows))) where
  next : drop i rows ≡ row ∷ drop (i + 1) rows
  next = drop_more rows i row lt ∙ ap (λ (x : Mapping). x ∷ drop (i + 1) rows) (sym here)

  opened : (m : Mapping) →
      times_selected distinct (count_by (same_mapping m) (out ++ f row ∷ map f (drop (i + 1) rows))) ≡ times_selected distinct (count_by (same_mapping m) (map f rows))
  opened m = ap (λ (xs : List Mapping). times_selected distinct (count_by (same_mapping m) (out ++ map f xs))) (sym next) ∙ h m

  -- the row comes behind those so far
  pub row_kept : (k : Mapping) (after : List Mapping) → k ≡ f row → after ≡ out ++ k ∷ [] → (m : Mapping) →
      times_selected distinct (count_by (same_mapping m) (after ++ map f (drop (i + 1) rows))) ≡ times_selected distinct (count_by (same_mapping m) (map f rows))
  row_kept k after ek ea m =
      let is : after ++ map f (drop (i + 1) rows) ≡ out ++ f row ∷ map f (drop (i + 1) rows) =
      ap (λ (xs : List Mapping). xs ++ map f (drop (i + 1) rows)) ea ∙ append_assoc out (k ∷ []) (map f (drop (i + 1) rows))
      ∙ ap (λ (x : Mapping). out ++ x ∷ map f (drop (i + 1) rows)) ek in
      ap (λ (xs : List Mapping). times_selected distinct (count_by (same_mapping m) xs)) is ∙ opened m

  -- under DISTINCT it is left out, where it stands among them
  pub row_left : distinct ≡ true → 0 < count_by (same_mapping (f row)) out → (m : Mapping) →
      times_selected distinct (count_by (same_mapping m) (out ++ map f (drop (i + 1) rows))) ≡ times_selected distinct (count_by (same_mapping m) (map f rows))
  row_left e there m =
      let rest : List Mapping = map f (drop (i + 1) rows) in
      ap (λ b. times_selected b (count_by (same_mapping m) (out ++ rest))) e ∙ repeat_counted m (f row) out rest there
      ∙ ap (λ b. times_selected b (count_by (same_mapping m) (out ++ f row ∷ rest))) (sym e) ∙ opened m

pub rows_done : (f : Mapping → Mapping) (rows : List Mapping) (i : ℕ) (out : List Mapping) (distinct : Bool) → length rows ≤ i →
    ((m : Mapping) → times_selected distinct (count_by (same_mapping m) (out ++ map f (drop i rows))) ≡ times_selected distinct (count_by (same_mapping m) (map f rows))) →
    (m : Mapping) → times_selected distinct (count_by (same_mapping m) out) ≡ times_selected distinct (count_by (same_mapping m) (map f rows))
rows_done f rows i out distinct e h m =
    let is : out ≡ out ++ map f (drop i rows) = sym (append-nil out) ∙ ap (λ (xs : List Mapping). out ++ map f xs) (sym (drop_all i rows e)) in
    ap (λ (xs : List Mapping). times_selected distinct (count_by (same_mapping m) xs)) is ∙ h m
