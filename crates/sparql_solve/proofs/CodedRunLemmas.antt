-- Rows that stand by their codes are sorted run by run: those of one code among themselves.
use Rattle.std.proofs.Common.{◌≡◌, ℕ, ◌+◌, ◌<◌, ◌≤◌, List, ◌++◌, length, take, drop, get_or, slice_index, All, IsPermutation, IsSorted, refl, sym, ap, ◌∙◌, subst, arith, is_lt, inl, inr, ap₂, ◌-◌, ◌≢◌, length-append, add-zero}
use Rattle.std.specs.List.Sorted.{IsNonDecreasing}
use Rattle.std.specs.declared.cmp.Ordering.TheVariants.{Less}
use Rattle.std.proofs.lemmas.Bool.{cases_lt}
use Rattle.std.proofs.lemmas.List.{drop-drop, drop-map, get_or-append_right, get_or-drop, get_or-take, get_or_append_left, length-drop, length-map, length-take, map-append, map-set, set-get_or, take-map, take_all}
use Rattle.std.proofs.lemmas.List.Elements.{All-append, All-drop, All-map, All-take, All-weaker}
use Rattle.std.proofs.lemmas.List.Sorted.{All-permutation, IsNonDecreasingBy-drop, IsPermutation-put_mid, IsPermutation-trans, length_permutation}
use Rattle.std.proofs.lemmas.Slice.{drop-put_mid, take-put_mid}
use borrow.Rule.Slice.PartMut.{put_mid}
use Rattle.sparql_values.specs.Mapping.{Mapping}
use Rattle.sparql_algebra.specs.Order.{mapping_cmp}
use Rattle.sparql_algebra.proofs.CallerLemmas.{less, mapping_ranks}
use Rattle.sparql_solve.specs.Coded.{AllBefore, AreRanked, codes_of, rows_of}
use Rattle.sparql_solve.specs.declared.coded.CodedRow.{CodedRow}
use Rattle.sparql_solve.proofs.CodedRowLemmas.{Follows, code_at, row_in}

-- ---- runs of one code

code_behind : (rows : List CodedRow) (from k : ℕ) → slice_index (codes_of (drop from rows)) k ≡ slice_index (codes_of rows) (from + k)
code_behind rows from k = ap (λ codes. slice_index codes k) (sym (drop-map (λ (r : CodedRow). r.code) from rows)) ∙ get_or-drop from (codes_of rows) k 0

ranked_drop : (n : ℕ) (rows : List CodedRow) → AreRanked rows → AreRanked (drop n rows)
ranked_drop n rows h =
    All-drop (λ a. All (Follows a) (drop n rows)) n rows
    (All-weaker (λ a. All (Follows a) rows) (λ a. All (Follows a) (drop n rows)) (λ a k. All-drop (Follows a) n rows k) rows h)

rising_drop : (n : ℕ) (rows : List CodedRow) → IsNonDecreasing (codes_of rows) → IsNonDecreasing (codes_of (drop n rows))
rising_drop n rows h = subst IsNonDecreasing (drop-map (λ (r : CodedRow). r.code) n rows) (IsNonDecreasingBy-drop (λ k. k) n (codes_of rows) h)

-- the rows of the first code come before those of the others
run_before : (rows : List CodedRow) (n : ℕ) → 0 < n → n ≤ length rows → AreRanked rows → IsNonDecreasing (codes_of rows) →
    ((k : ℕ) → k < n → slice_index (codes_of rows) k ≡ slice_index (codes_of rows) 0) →
    (n < length rows → slice_index (codes_of rows) n ≢ slice_index (codes_of rows) 0) → AllBefore (rows_of (take n rows)) (rows_of (drop n rows))
run_before rows n some within ranks rising alike differ =
    All-map (λ m. All (λ o. mapping_cmp m o ≡ Less) (rows_of (drop n rows))) row_in (take n rows) (λ i d l.
    All-map (λ o. mapping_cmp (get_or (take n rows) i d).row o ≡ Less) row_in (drop n rows) (λ j e m. apart i d l j e m))
  where
    apart : (i : ℕ) (d : CodedRow) → i < length (take n rows) → (j : ℕ) (e : CodedRow) → j < length (drop n rows) →
        mapping_cmp (get_or (take n rows) i d).row (get_or (drop n rows) j e).row ≡ Less
    apart i d l j e m =
        let at : i < n = omega (arith, l, length-take n rows) in
        let behind : n + j < length rows = omega (arith, m, length-drop n rows) in
        let first : slice_index (codes_of rows) i ≡ slice_index (codes_of rows) 0 = alike i at in
        let rises : slice_index (codes_of rows) 0 ≤ slice_index (codes_of rows) n = rising 0 n 0 (omega arith) (omega (arith, behind, length-map rows (λ (r : CodedRow). r.code))) in
        let later : slice_index (codes_of rows) n ≤ slice_index (codes_of rows) (n + j) = rising n (n + j) 0 (omega arith) (omega (arith, behind, length-map rows (λ (r : CodedRow). r.code))) in
        let other : slice_index (codes_of rows) n ≢ slice_index (codes_of rows) 0 = differ (omega arith) in
        let lower : (get_or rows i d).code < (get_or rows (n + j) e).code =
        omega (arith, first, rises, later, other, code_at rows i d (omega arith), code_at rows (n + j) e behind) in
        ap₂ (λ (a b : CodedRow). mapping_cmp a.row b.row) (get_or-take n rows i d at) (get_or-drop n rows j e)
        ∙ ranks i d (omega arith) (n + j) e behind lower

-- ---- rows sorted by and by

sorted_join : (xs ys : List Mapping) → IsSorted mapping_cmp xs → IsSorted mapping_cmp ys → AllBefore xs ys → IsSorted mapping_cmp (xs ++ ys)
sorted_join xs ys h k b i d low up =
    elim (cases_lt (i + 1) (length xs)) [
      | inl lt ↦ ap₂ less (get_or_append_left xs ys d (i + 1) lt) (get_or_append_left xs ys d i (omega arith)) ∙ h i d low lt
      | inr le ↦ elim (cases_lt i (length xs)) [
        | inl at ↦
            let next : get_or (xs ++ ys) (i + 1) d ≡ get_or ys 0 d =
            get_or-append_right xs ys (length xs) (i + 1) d refl le ∙ ap (λ n. get_or ys n d) (omega arith) in
            ap₂ less next (get_or_append_left xs ys d i at)
            ∙ mapping_ranks.one_way (get_or xs i d) (get_or ys 0 d) (ap is_lt (b i d at 0 d (omega (arith, length-append xs ys))))
        | inr past ↦
            let next : get_or (xs ++ ys) (i + 1) d ≡ get_or ys (i - length xs + 1) d =
            get_or-append_right xs ys (length xs) (i + 1) d refl le ∙ ap (λ n. get_or ys n d) (omega arith) in
            ap₂ less next (get_or-append_right xs ys (length xs) i d refl past)
            ∙ k (i - length xs) d (omega arith) (omega (arith, length-append xs ys))
      ]
    ]

module _ (xs rest part : List Mapping) (n : ℕ) (moved : IsPermutation (take n rest) part) where
  abbrev Comes : Mapping → Mapping → Type 0
  Comes m o = mapping_cmp m o ≡ Less

  part_sorted : IsSorted mapping_cmp xs → AllBefore xs rest → IsSorted mapping_cmp part → IsSorted mapping_cmp (xs ++ part)
  part_sorted h b k =
      sorted_join xs part h k
      (All-weaker (λ m. All (Comes m) rest) (λ m. All (Comes m) part) (λ m a. All-permutation (Comes m) (take n rest) part moved (All-take (Comes m) n rest a)) xs b)

  part_before : AllBefore xs rest → AllBefore (take n rest) (drop n rest) → AllBefore (xs ++ part) (drop n rest)
  part_before b r =
      All-append (λ m. All (Comes m) (drop n rest)) xs part
      (All-weaker (λ m. All (Comes m) rest) (λ m. All (Comes m) (drop n rest)) (λ m a. All-drop (Comes m) n rest a) xs b)
      (All-permutation (λ m. All (Comes m) (drop n rest)) (take n rest) part moved r)

-- the rows up to a place are sorted and come before the others, which stand by their codes
pub record IsSortedTo (from : ℕ) (old new : List CodedRow) : Type 0 where
  pub within : from ≤ length new
  pub permutation : IsPermutation (rows_of old) (rows_of new)
  pub sorted : IsSorted mapping_cmp (rows_of (take from new))
  pub before : AllBefore (rows_of (take from new)) (rows_of (drop from new))
  pub ranks : AreRanked (drop from new)
  pub rising : IsNonDecreasing (codes_of (drop from new))

pub sorted_to_all : (from : ℕ) (old new : List CodedRow) → length new ≤ from → IsSortedTo from old new → IsSorted mapping_cmp (rows_of new)
sorted_to_all from old new le h = subst (λ (rows : List CodedRow). IsSorted mapping_cmp (rows_of rows)) (take_all from new le) h.sorted

rows_put : (from n : ℕ) (rows part : List CodedRow) → put_mid from n (rows_of rows) (rows_of part) ≡ rows_of (put_mid from n rows part)
rows_put from n rows part = simp (map-append, map-set, set-get_or, take-map, drop-map)

pub sorted_to_more : (from to : ℕ) (old new part : List CodedRow) → IsSortedTo from old new → from < to → to ≤ length new →
    ((k : ℕ) → from ≤ k → k < to → slice_index (codes_of new) k ≡ slice_index (codes_of new) from) →
    (to < length new → slice_index (codes_of new) to ≢ slice_index (codes_of new) from) →
    IsPermutation (rows_of (take (to - from) (drop from new))) (rows_of part) → IsSorted mapping_cmp (rows_of part) →
    IsSortedTo to old (put_mid from (to - from) new part)
sorted_to_more from to old new part h past within alike differ moved sorted =
    let n : ℕ = to - from in
    let rest : List CodedRow = drop from new in
    let put : List CodedRow = put_mid from n new part in
    let moves : IsPermutation (take n (rows_of rest)) (rows_of part) = subst (λ (xs : List Mapping). IsPermutation xs (rows_of part)) (sym (take-map row_in n rest)) moved in
    let long : length part ≡ n =
    omega (
      arith,
      past,
      within,
      length_permutation (rows_of (take n rest)) (rows_of part) moved,
      length-map part row_in,
      length-map (take n rest) row_in,
      length-take n rest,
      length-drop from new,
    ) in
    let front : take to put ≡ take from new ++ part = take-put_mid from n new part to (omega arith) h.within in
    let behind : drop n rest ≡ drop to new = drop-drop n from new ∙ ap (λ k. drop k new) (omega arith) in
    let back : drop to put ≡ drop n rest = drop-put_mid from n new part to (omega arith) h.within long ∙ sym behind in
    let rows_in : rows_of (take to put) ≡ rows_of (take from new) ++ rows_of part = ap rows_of front ∙ map-append row_in (take from new) part in
    let run : AllBefore (take n (rows_of rest)) (drop n (rows_of rest)) =
    subst (λ (xs : List Mapping). AllBefore xs (drop n (rows_of rest))) (sym (take-map row_in n rest))
    (subst (AllBefore (rows_of (take n rest))) (sym (drop-map row_in n rest))
    (run_before rest n (omega arith) (omega (arith, length-drop from new)) h.ranks h.rising
    (λ k l. code_behind new from k ∙ alike (from + k) (omega arith) (omega arith) ∙ sym (first new from))
    (λ l e. differ (omega (arith, l, length-drop from new)) (ap (slice_index (codes_of new)) (omega arith) ∙ sym (code_behind new from n) ∙ e ∙ first new from)))) in
    record {
      within = omega (
        arith,
        within,
        length-append (take from new) (part ++ drop n rest),
        length-append part (drop n rest),
        length-take from new,
        length-drop n rest,
        length-drop from new,
        long,
      );
      permutation = IsPermutation-trans (rows_of old) (rows_of new) (rows_of put) h.permutation
          (subst (IsPermutation (rows_of new)) (rows_put from n new part) (IsPermutation-put_mid from n (rows_of new) (rows_of part)
          (subst (λ (xs : List Mapping). IsPermutation (take n xs) (rows_of part)) (sym (drop-map row_in from new)) moves)));
      sorted = subst (IsSorted mapping_cmp) (sym rows_in) (part_sorted (rows_of (take from new)) (rows_of rest) (rows_of part) n moves h.sorted h.before sorted);
      before = subst (λ (xs : List Mapping). AllBefore xs (rows_of (drop to put))) (sym rows_in)
          (subst (AllBefore (rows_of (take from new) ++ rows_of part)) (drop-map row_in n rest ∙ sym (ap rows_of back))
          (part_before (rows_of (take from new)) (rows_of rest) (rows_of part) n moves h.before run));
      ranks = subst AreRanked (sym back) (ranked_drop n rest h.ranks);
      rising = subst (λ (rows : List CodedRow). IsNonDecreasing (codes_of rows)) (sym back) (rising_drop n rest h.rising);
    }
  where
    first : (new : List CodedRow) (from : ℕ) → slice_index (codes_of (drop from new)) 0 ≡ slice_index (codes_of new) from
    first new from = code_behind new from 0 ∙ ap (slice_index (codes_of new)) (add-zero from)
