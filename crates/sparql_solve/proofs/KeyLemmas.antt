-- Rows by key: the rows of an index that have a key, and that no others are compatible.
use Rattle.std.proofs.Common.{◌≡◌, ℕ, zero, suc, ◌+◌, ◌-◌, ◌<◌, ◌≤◌, Bool, true, false, cond, not, ◌&&◌, List, [], ◌∷◌, ◌++◌, map, filter, Option, Some, None, is_some, length, take, drop, get_or, refl, sym, ap, ◌∙◌, subst, arith, append-nil, nat_eq, Bor}
use Rattle.std.specs.List.{list_all, range_with_len, slice_get}
use Rattle.std.specs.List.Sorted.{IsSortedBy, IsStableBy, IsPermutation, IsPartitionPoint, IsPartitionedBy, ties}
use Rattle.std.specs.Ordering.{is_lt, is_le, is_eq, ordering_index, ordering_reverse, ordering_then}
use Rattle.std.specs.Cmp.{IsTotalOrder}
use Rattle.std.specs.declared.cmp.Ordering.{Ordering}
use Rattle.std.specs.declared.cmp.Ordering.TheVariants.{Less, Equal, Greater}
use Rattle.std.proofs.Math.ListN.{get_or-map}
use Rattle.std.proofs.lemmas.Bool.{eqb-true}
use Rattle.std.proofs.lemmas.Cmp.{tied_itself}
use Rattle.std.proofs.lemmas.List.{get_or-drop, get_or_default, length-drop, length-map, map-id}
use Rattle.std.proofs.lemmas.List.FromFn.{filter_of_map_range_with_len_more}
use Rattle.std.proofs.lemmas.List.Sorted.{searchable_from_sorted, length_permutation}
use Rattle.rdf_terms.specs.declared.term.Term.{Term}
use Rattle.sparql_values.specs.Mapping.{Mapping, agrees, value_at, compatible, merge}
use Rattle.sparql_values.specs.NextBound.{IsFirstFrom, IsNextBound}
use Rattle.sparql_algebra.specs.Order.{mapping_cmp}
use Rattle.sparql_algebra.specs.Solutions.{merges}
use Rattle.sparql_algebra.specs.Under.{agreeing}
use Rattle.sparql_algebra.proofs.CallerLemmas.{and_left, and_right, same_term_is, mapping_total, filter-cong}
use Rattle.sparql_solve.specs.Keys.{IsIndex, IsKeyOf, RunsGiveMerges, binds, all_bind, columns_of, key_columns, key, key_cmp, same_key, run}

-- ---- comparisons

step_equal : (r s : Ordering) → (is_eq r ≡ true) → ordering_then r s ≡ s
step_equal Less s h = cc
step_equal Equal s h = refl
step_equal Greater s h = cc

lt_index : (r : Ordering) → is_lt r ≡ true → ordering_index r ≡ 0
lt_index Less h = refl
lt_index Equal h = cc
lt_index Greater h = cc

index_lt : (r : Ordering) → ordering_index r ≡ 0 → is_lt r ≡ true
index_lt Less h = refl
index_lt Equal h = absurd (omega (arith, h))
index_lt Greater h = absurd (omega (arith, h))

le_index : (r : Ordering) → is_le r ≡ true → ordering_index r ≤ 1
le_index Less h = omega arith
le_index Equal h = omega arith
le_index Greater h = cc

index_le : (r : Ordering) → ordering_index r ≤ 1 → is_le r ≡ true
index_le Less h = refl
index_le Equal h = refl
index_le Greater h = absurd (omega (arith, h))

less_not_same : (r s : Ordering) → s ≡ ordering_reverse r → is_lt r ≡ true → is_eq s ≡ false
less_not_same Less s e h = ap is_eq e
less_not_same Equal s e h = cc
less_not_same Greater s e h = cc

above_not_same : (r s : Ordering) → s ≡ ordering_reverse r → is_le r ≡ false → is_eq s ≡ false
above_not_same Less s e h = cc
above_not_same Equal s e h = cc
above_not_same Greater s e h = ap is_eq e

between_same : (r s : Ordering) → s ≡ ordering_reverse r → is_lt r ≡ false → is_le r ≡ true → is_eq s ≡ true
between_same Less s e h j = cc
between_same Equal s e h j = ap is_eq e
between_same Greater s e h j = cc

ties_same : (r s : Ordering) → s ≡ ordering_reverse r → (not (is_lt r) && not (is_lt s)) ≡ is_eq r
ties_same Less s e = refl
ties_same Equal s e = ap (λ (x : Ordering). not (is_lt x)) e
ties_same Greater s e = ap (λ (x : Ordering). not (is_lt x)) e

-- ---- lists

module _ {X : Type 0} where
  -- what fails at the front is left out
  filter_skips : (p : X → Bool) (xs : List X) (i : ℕ) → ((k : ℕ) (d : X) → k < i → k < length xs → p (get_or xs k d) ≡ false) → filter p xs ≡ filter p (drop i xs)
  filter_skips p [] zero h = refl
  filter_skips p [] (suc i) h = refl
  filter_skips p (x ∷ xs) zero h = refl
  filter_skips p (x ∷ xs) (suc i) h =
      ap (λ b. cond b (x ∷ filter p xs) (filter p xs)) (h zero x (omega arith) (omega arith))
      ∙ filter_skips p xs i (λ k d a b. h (suc k) d (omega arith) (omega arith))

  filter_none : (p : X → Bool) (xs : List X) → ((k : ℕ) (d : X) → k < length xs → p (get_or xs k d) ≡ false) → filter p xs ≡ []
  filter_none p [] h = refl
  filter_none p (x ∷ xs) h =
      ap (λ b. cond b (x ∷ filter p xs) (filter p xs)) (h zero x (omega arith)) ∙ filter_none p xs (λ k d b. h (suc k) d (omega arith))

  -- what passes at the front is kept, where no more passes behind it
  filter_keeps : (p : X → Bool) (xs : List X) (n : ℕ) → ((k : ℕ) (d : X) → k < n → k < length xs → p (get_or xs k d) ≡ true) →
      ((k : ℕ) (d : X) → n ≤ k → k < length xs → p (get_or xs k d) ≡ false) → filter p xs ≡ take n xs
  filter_keeps p xs zero h j = filter_none p xs (λ k d b. j k d (omega arith) b)
  filter_keeps p [] (suc n) h j = refl
  filter_keeps p (x ∷ xs) (suc n) h j =
      ap (λ b. cond b (x ∷ filter p xs) (filter p xs)) (h zero x (omega arith) (omega arith))
      ∙ ap (λ (l : List X). x ∷ l) (filter_keeps p xs n (λ k d a b. h (suc k) d (omega arith) (omega arith)) (λ k d a b. j (suc k) d (omega arith) (omega arith)))

  -- a test that takes in another leaves what that one keeps
  pub filter_within : (p q : X → Bool) (xs : List X) → ((k : ℕ) (d : X) → k < length xs → p (get_or xs k d) ≡ true → q (get_or xs k d) ≡ true) →
      filter p (filter q xs) ≡ filter p xs
  filter_within p q [] h = refl
  filter_within p q (x ∷ xs) h = by_test (p x) (q x) refl refl (filter_within p q xs (λ k d b e. h (suc k) d (omega arith) e))
    where
      by_test : (b c : Bool) → p x ≡ b → q x ≡ c → filter p (filter q xs) ≡ filter p xs →
          filter p (cond c (x ∷ filter q xs) (filter q xs)) ≡ cond b (x ∷ filter p xs) (filter p xs)
      by_test true true ep eq r = ap (λ t. cond t (x ∷ filter p (filter q xs)) (filter p (filter q xs))) ep ∙ ap (λ (l : List X). x ∷ l) r
      by_test true false ep eq r = let t : q x ≡ true = h zero x (omega arith) ep in cc
      by_test false true ep eq r = ap (λ t. cond t (x ∷ filter p (filter q xs)) (filter p (filter q xs))) ep ∙ r
      by_test false false ep eq r = r

  all_at : (p : X → Bool) (xs : List X) (k : ℕ) (d : X) → list_all p xs ≡ true → k < length xs → p (get_or xs k d) ≡ true
  all_at p [] k d h lt = absurd (omega arith)
  all_at p (x ∷ xs) zero d h lt = and_left (p x) _ h
  all_at p (x ∷ xs) (suc k) d h lt = all_at p xs k d (and_right (p x) _ h) (omega arith)

  -- what all that a filter keeps pass
  all_kept : (p q : X → Bool) (xs : List X) → ((x : X) → p x ≡ true → q x ≡ true) → list_all q (filter p xs) ≡ true
  all_kept p q [] h = refl
  all_kept p q (x ∷ xs) h = by_test (p x) refl (all_kept p q xs h)
    where
      by_test : (b : Bool) → p x ≡ b → list_all q (filter p xs) ≡ true → list_all q (cond b (x ∷ filter p xs) (filter p xs)) ≡ true
      by_test true e r = ap (λ t. t && list_all q (filter p xs)) (h x e) ∙ r
      by_test false e r = r

module _ {X Y : Type 0} (f : X → Y) (p : Y → Bool) where
  pub map_filter : (xs : List X) → map f (filter (λ x. p (f x)) xs) ≡ filter p (map f xs)
  map_filter [] = refl
  map_filter (x ∷ xs) = by_test (p (f x)) (map_filter xs)
    where
      by_test : (b : Bool) → map f (filter (λ y. p (f y)) xs) ≡ filter p (map f xs) →
          map f (cond b (x ∷ filter (λ y. p (f y)) xs) (filter (λ y. p (f y)) xs)) ≡ cond b (f x ∷ filter p (map f xs)) (filter p (map f xs))
      by_test true r = ap (λ (l : List Y). f x ∷ l) r
      by_test false r = r

-- ---- what a search by halves finds in a sorted list

module _ {X K : Type 0} (key_of : X → K) {R : K → K → Ordering} (o : IsTotalOrder R) (k : K) where
  abbrev pub low : X → Bool
  low x = is_lt (R (key_of x) k)

  abbrev pub up : X → Bool
  up x = is_le (R (key_of x) k)

  abbrev pub same : X → Bool
  same x = is_eq (R k (key_of x))

  abbrev rank : X → ℕ
  rank x = ordering_index (R (key_of x) k)

  abbrev before : X → X → Bool
  before x y = is_lt (R (key_of x) (key_of y))

  turned : (x : X) → R k (key_of x) ≡ ordering_reverse (R (key_of x) k)
  turned x = o.antisymm k (key_of x)

  pub low_parts : (xs : List X) → IsSortedBy before xs → IsPartitionedBy low xs
  low_parts xs h i j d a b t =
      let rises : rank (get_or xs i d) ≤ rank (get_or xs j d) = searchable_from_sorted o key_of xs k h i j d a b in
      let none : rank (get_or xs j d) ≡ 0 = lt_index (R (key_of (get_or xs j d)) k) t in
      let here : rank (get_or xs i d) ≡ 0 = omega (arith, rises, none) in
      index_lt (R (key_of (get_or xs i d)) k) here

  pub up_parts : (xs : List X) (n : ℕ) → IsSortedBy before xs → IsPartitionedBy up (drop n xs)
  up_parts xs n h i j d a b t =
      let within : j < length xs - n = subst (λ (m : ℕ). j < m) (length-drop n xs) b in
      let rises : rank (get_or xs (n + i) d) ≤ rank (get_or xs (n + j) d) = searchable_from_sorted o key_of xs k h (n + i) (n + j) d (omega (arith, a)) (omega (arith, within)) in
      let at_i : get_or (drop n xs) i d ≡ get_or xs (n + i) d = get_or-drop n xs i d in
      let at_j : get_or (drop n xs) j d ≡ get_or xs (n + j) d = get_or-drop n xs j d in
      let one : rank (get_or (drop n xs) j d) ≤ 1 = le_index (R (key_of (get_or (drop n xs) j d)) k) t in
      let also : rank (get_or xs (n + j) d) ≤ 1 = subst (λ (x : X). rank x ≤ 1) at_j one in
      let here : rank (get_or xs (n + i) d) ≤ 1 = omega (arith, rises, also) in
      index_le (R (key_of (get_or (drop n xs) i d)) k) (subst (λ (x : X). rank x ≤ 1) (sym at_i) here)

  pub run_found : (xs : List X) (i n : ℕ) → IsPartitionPoint (λ x. low x ≡ true) (λ x. low x ≡ false) xs i →
      IsPartitionPoint (λ x. up x ≡ true) (λ x. up x ≡ false) (drop i xs) n → take n (drop i xs) ≡ filter same xs
  run_found xs i n lows ups = sym (filter_skips same xs i below ∙ filter_keeps same (drop i xs) n among above)
    where
      below : (m : ℕ) (d : X) → m < i → m < length xs → same (get_or xs m d) ≡ false
      below m d a b =
          less_not_same (R (key_of (get_or xs m d)) k) (R k (key_of (get_or xs m d))) (turned (get_or xs m d)) (lows.0 m d (omega arith) a)

      not_low : (m : ℕ) (d : X) → m < length (drop i xs) → low (get_or (drop i xs) m d) ≡ false
      not_low m d b =
          let within : m < length xs - i = subst (λ (l : ℕ). m < l) (length-drop i xs) b in
          ap low (get_or-drop i xs m d) ∙ lows.1 (i + m) d (omega arith) (omega (arith, within))

      among : (m : ℕ) (d : X) → m < n → m < length (drop i xs) → same (get_or (drop i xs) m d) ≡ true
      among m d a b =
          between_same (R (key_of (get_or (drop i xs) m d)) k) (R k (key_of (get_or (drop i xs) m d))) (turned (get_or (drop i xs) m d)) (not_low m d b)
          (ups.0 m d (omega arith) a)

      above : (m : ℕ) (d : X) → n ≤ m → m < length (drop i xs) → same (get_or (drop i xs) m d) ≡ false
      above m d a b =
          above_not_same (R (key_of (get_or (drop i xs) m d)) k) (R k (key_of (get_or (drop i xs) m d))) (turned (get_or (drop i xs) m d)) (ups.1 m d a b)

-- ---- references to rows, and the rows

abbrev pub rows_of : List (Bor Mapping) → List Mapping
rows_of xs = map (λ r. r.now) xs

abbrev at_row : Bor Mapping → Mapping → Bor Mapping
at_row b x = record { ref_ptr = b.ref_ptr; now = x }

module _ (columns : List ℕ) where
  abbrev earlier : Mapping → Mapping → Bool
  earlier x y = is_lt (key_cmp columns x y)

  abbrev pub earlier_at : Bor Mapping → Bor Mapping → Bool
  earlier_at x y = is_lt (key_cmp columns x.now y.now)

  sorted_rows : (xs : List (Bor Mapping)) → IsSortedBy earlier_at xs → IsSortedBy earlier (rows_of xs)
  sorted_rows [] h k d a l = absurd (omega (arith, l))
  sorted_rows (b ∷ xs) h k d a l =
      let long : length (rows_of (b ∷ xs)) ≡ length (b ∷ xs) = length-map (b ∷ xs) (λ (r : Bor Mapping). r.now) in
      let within : k + 1 < length (b ∷ xs) = omega (arith, long, l) in
      let next : get_or (rows_of (b ∷ xs)) (k + 1) d ≡ (get_or (b ∷ xs) (k + 1) b).now = default_of (b ∷ xs) (k + 1) b d within in
      let this : get_or (rows_of (b ∷ xs)) k d ≡ (get_or (b ∷ xs) k b).now = default_of (b ∷ xs) k b d (omega (arith, within)) in
      ap (λ (x : Mapping). earlier x (get_or (rows_of (b ∷ xs)) k d)) next ∙ ap (λ (y : Mapping). earlier (get_or (b ∷ xs) (k + 1) b).now y) this ∙ h k b a within
    where
      default_of : (ys : List (Bor Mapping)) (m : ℕ) (e : Bor Mapping) (z : Mapping) → m < length ys → get_or (rows_of ys) m z ≡ (get_or ys m e).now
      default_of [] m e z lt = absurd (omega arith)
      default_of (y ∷ ys) zero e z lt = refl
      default_of (y ∷ ys) (suc m) e z lt = default_of ys m e z (omega arith)

  pub sorted_references : (xs : List (Bor Mapping)) → IsSortedBy earlier (rows_of xs) → IsSortedBy earlier_at xs
  sorted_references xs h k d a l =
      let long : length (rows_of xs) ≡ length xs = length-map xs (λ (r : Bor Mapping). r.now) in
      let next : get_or (rows_of xs) (k + 1) d.now ≡ (get_or xs (k + 1) d).now = get_or-map (λ (r : Bor Mapping). r.now) xs (k + 1) d in
      let this : get_or (rows_of xs) k d.now ≡ (get_or xs k d).now = get_or-map (λ (r : Bor Mapping). r.now) xs k d in
      let rows : earlier (get_or (rows_of xs) (k + 1) d.now) (get_or (rows_of xs) k d.now) ≡ false = h k d.now a (omega (arith, long, l)) in
      ap (λ (y : Mapping). earlier (get_or xs (k + 1) d).now y) (sym this) ∙ ap (λ (x : Mapping). earlier x (get_or (rows_of xs) k d.now)) (sym next) ∙ rows

  none_left : (ys : List (Bor Mapping)) → length ys ≡ 0 → ys ≡ []
  none_left [] e = refl
  none_left (y ∷ ys) e = absurd (omega (arith, e))

  stable_rows : (xs ys : List (Bor Mapping)) → IsPermutation xs ys → IsStableBy earlier_at xs ys → IsStableBy earlier (rows_of xs) (rows_of ys)
  stable_rows [] ys p h x = ap (λ (l : List (Bor Mapping)). filter (ties earlier x) (rows_of l)) (none_left ys (length_permutation [] ys p))
  stable_rows (b ∷ xs) ys p h x =
      sym (map_filter (λ (r : Bor Mapping). r.now) (ties earlier x) ys) ∙ ap rows_of (h (at_row b x))
      ∙ map_filter (λ (r : Bor Mapping). r.now) (ties earlier x) (b ∷ xs)

  pub index_found : (B : List Mapping) (xs ys : List (Bor Mapping)) → rows_of xs ≡ B → IsPermutation xs ys → IsSortedBy earlier_at ys →
      IsStableBy earlier_at xs ys → IsIndex columns B (rows_of ys)
  index_found B xs ys e p h s = record {
    sorted = sorted_rows ys h;
    stable = subst (λ (l : List Mapping). IsStableBy earlier l (rows_of ys)) e (stable_rows xs ys p s);
  }

-- where there is no column all mappings have one key
pub index_unsorted : (columns : List ℕ) (B : List Mapping) (xs : List (Bor Mapping)) (b : Bool) → rows_of xs ≡ B → b ≡ nat_eq (length columns) 0 →
    b ≡ true → IsIndex columns B (rows_of xs)
index_unsorted [] B xs b e n t =
    subst (λ (l : List Mapping). IsIndex [] l (rows_of xs)) e (record { sorted = λ k d a l. refl; stable = λ x. refl })
index_unsorted (c ∷ columns) B xs b e n t = absurd (omega (arith, eqb-true (length (c ∷ columns)) 0 (sym n ∙ t)))

-- ---- compatible mappings have one key

same_at : (x y : Option Term) → agrees (x, y) ≡ true → is_some x ≡ true → is_some y ≡ true → x ≡ y
same_at (Some s) (Some t) h p q = ap Some (same_term_is s t h)
same_at (Some s) None h p q = cc
same_at None y h p q = cc

pub agree_at : (a b : Mapping) (c : ℕ) → compatible a b ≡ true → binds c a ≡ true → binds c b ≡ true → value_at a c ≡ value_at b c
agree_at [] b c h p q = cc
agree_at (x ∷ a) [] c h p q = cc
agree_at (x ∷ a) (y ∷ b) zero h p q = same_at x y (and_left (agrees (x, y)) _ h) p q
agree_at (x ∷ a) (y ∷ b) (suc c) h p q = agree_at a b c (and_right (agrees (x, y)) _ h) p q

-- the mapping has a term at each of the columns
abbrev has_key : List ℕ → Mapping → Bool
has_key columns m = list_all (λ c. binds c m) columns

keys_agree : (columns : List ℕ) (a b : Mapping) → compatible a b ≡ true → has_key columns a ≡ true → has_key columns b ≡ true → key columns a ≡ key columns b
keys_agree [] a b h p q = refl
keys_agree (c ∷ columns) a b h p q =
    ap (λ (v : Option Term). v ∷ key columns a) (agree_at a b c h (and_left (binds c a) _ p) (and_left (binds c b) _ q))
    ∙ ap (λ (m : Mapping). value_at b c ∷ m) (keys_agree columns a b h (and_right (binds c a) _ p) (and_right (binds c b) _ q))

one_key : (columns : List ℕ) (a b : Mapping) → has_key columns a ≡ true → has_key columns b ≡ true → compatible a b ≡ true → same_key columns a b ≡ true
one_key columns a b p q h =
    ap (λ (m : Mapping). is_eq (mapping_cmp (key columns a) m)) (sym (keys_agree columns a b h p q)) ∙ ap is_eq (tied_itself mapping_total (key columns a))

-- each mapping of both lists has the key
pub left_has : (columns : List ℕ) (A B : List Mapping) (i : ℕ) (d : Mapping) → i < length A → IsKeyOf columns A B → has_key columns (get_or A i d) ≡ true
left_has [] A B i d lt h = refl
left_has (c ∷ columns) A B i d lt h =
    ap (λ t. t && has_key columns (get_or A i d)) (all_at (binds c) A i d (and_left (list_all (binds c) A) _ (and_left (all_bind A B c) _ h)) lt)
    ∙ left_has columns A B i d lt (and_right (all_bind A B c) _ h)

pub right_has : (columns : List ℕ) (A B : List Mapping) (i : ℕ) (d : Mapping) → i < length B → IsKeyOf columns A B → has_key columns (get_or B i d) ≡ true
right_has [] A B i d lt h = refl
right_has (c ∷ columns) A B i d lt h =
    ap (λ t. t && has_key columns (get_or B i d)) (all_at (binds c) B i d (and_right (list_all (binds c) A) _ (and_left (all_bind A B c) _ h)) lt)
    ∙ right_has columns A B i d lt (and_right (all_bind A B c) _ h)

key_columns_bound : (A B : List Mapping) → IsKeyOf (key_columns A B) A B
key_columns_bound [] B = refl
key_columns_bound (a ∷ A) B = all_kept (all_bind (a ∷ A) B) (all_bind (a ∷ A) B) (columns_of a) (λ c e. e)

pub bound_columns : (columns : List ℕ) (A B : List Mapping) → columns ≡ key_columns A B → IsKeyOf columns A B
bound_columns columns A B e = subst (λ (cs : List ℕ). IsKeyOf cs A B) (sym e) (key_columns_bound A B)

-- ---- the merges of a run are the merges

tie_is : (columns : List ℕ) (a y : Mapping) → ties (λ x z. is_lt (key_cmp columns x z)) a y ≡ same_key columns a y
tie_is columns a y =
    ties_same (key_cmp columns a y) (key_cmp columns y a) (mapping_total.antisymm (key columns y) (key columns a))

run_is : (columns : List ℕ) (B index : List Mapping) (a : Mapping) → IsIndex columns B index → run columns index a ≡ filter (same_key columns a) B
run_is columns B index a h =
    let tie : Mapping → Bool = ties (λ x z. is_lt (key_cmp columns x z)) a in
    sym (filter-cong tie (same_key columns a) (tie_is columns a) index) ∙ h.stable a ∙ filter-cong tie (same_key columns a) (tie_is columns a) B

-- those of a run that are compatible with the mapping are all that are
pub compatible_in_run : (columns : List ℕ) (A B index : List Mapping) (i : ℕ) (a : Mapping) → i < length A → a ≡ get_or A i a → IsKeyOf columns A B →
    IsIndex columns B index → agreeing (run columns index a) a ≡ agreeing B a
compatible_in_run columns A B index i a lt here k h =
    let own : has_key columns a ≡ true = subst (λ (m : Mapping). has_key columns m ≡ true) (sym here) (left_has columns A B i a lt k) in
    ap (filter (compatible a)) (run_is columns B index a h)
    ∙ filter_within (compatible a) (same_key columns a) B (λ j d l e. one_key columns a (get_or B j d) own (right_has columns A B j d l k) e)

merges_of_run : (columns : List ℕ) (A B index : List Mapping) (i : ℕ) (a : Mapping) → i < length A → a ≡ get_or A i a → IsKeyOf columns A B →
    IsIndex columns B index → merges (run columns index a) a ≡ merges B a
merges_of_run columns A B index i a lt here k h = ap (map (merge a)) (compatible_in_run columns A B index i a lt here k h)

pub runs_suffice : RunsGiveMerges
runs_suffice A B index h k d lt =
    merges_of_run (key_columns A B) A B index k (get_or A k d) lt (get_or_default A k d (get_or A k d) lt) (key_columns_bound A B) h

-- ---- for the loop over the columns

kept_more : (p : ℕ → Bool) (n : ℕ) → filter p (range_with_len 0 (n + 1)) ≡ filter p (range_with_len 0 n) ++ cond (p n) (n ∷ []) []
kept_more p n =
    ap (filter p) (sym (map-id (range_with_len 0 (n + 1)))) ∙ filter_of_map_range_with_len_more p (λ (x : ℕ). x) 0 n n (omega arith)
    ∙ ap (λ (l : List ℕ). filter p l ++ cond (p n) (n ∷ []) []) (map-id (range_with_len 0 n))

pub column_kept : (p : ℕ → Bool) (n : ℕ) (b : Bool) (kept after : List ℕ) → b ≡ p n → b ≡ true → kept ≡ filter p (range_with_len 0 n) →
    after ≡ kept ++ n ∷ [] → after ≡ filter p (range_with_len 0 (n + 1))
column_kept p n b kept after e t h ea =
    ea ∙ ap (λ (l : List ℕ). l ++ n ∷ []) h ∙ ap (λ (c : Bool). filter p (range_with_len 0 n) ++ cond c (n ∷ []) []) (sym t ∙ e) ∙ sym (kept_more p n)

pub column_left_out : (p : ℕ → Bool) (n : ℕ) (b : Bool) (kept : List ℕ) → b ≡ p n → b ≡ false → kept ≡ filter p (range_with_len 0 n) →
    kept ≡ filter p (range_with_len 0 (n + 1))
column_left_out p n b kept e t h =
    h ∙ sym (append-nil (filter p (range_with_len 0 n))) ∙ ap (λ (c : Bool). filter p (range_with_len 0 n) ++ cond c (n ∷ []) []) (sym t ∙ e) ∙ sym (kept_more p n)

-- ---- the columns at which the first mapping has no term are left out

skipped : (here : ℕ → Bool) (from k : ℕ) (kept : List ℕ) → ((i : ℕ) → from ≤ i → i < from + k → here i ≡ false) → kept ≡ filter here (range_with_len 0 from) →
    kept ≡ filter here (range_with_len 0 (from + k))
skipped here from zero kept h e = e ∙ ap (λ n. filter here (range_with_len 0 n)) (omega arith)
skipped here from (suc k) kept h e =
    let before = skipped here from k kept (λ i a b. h i a (omega (arith, b))) e in
    column_left_out here (from + k) false kept (sym (h (from + k) (omega arith) (omega arith))) refl before
    ∙ ap (λ n. filter here (range_with_len 0 n)) (omega arith)

skipped_to : (here : ℕ → Bool) (from to : ℕ) (kept : List ℕ) → from ≤ to → ((i : ℕ) → from ≤ i → i < to → here i ≡ false) →
    kept ≡ filter here (range_with_len 0 from) → kept ≡ filter here (range_with_len 0 to)
skipped_to here from to kept le h e =
    skipped here from (to - from) kept (λ i a b. h i a (omega (arith, b, le))) e ∙ ap (λ n. filter here (range_with_len 0 n)) (omega (arith, le))

module _ (ls : List (Bor Mapping)) (B : List Mapping) (x : Bor Mapping) (is_first : Some x ≡ slice_get ls 0) where
  columns_of_first : key_columns (rows_of ls) B ≡ filter (all_bind (rows_of ls) B) (columns_of x.now)
  columns_of_first = by_list ls is_first
    where
      by_list : (ys : List (Bor Mapping)) → Some x ≡ slice_get ys 0 → key_columns (rows_of ys) B ≡ filter (all_bind (rows_of ys) B) (columns_of x.now)
      by_list [] e = cc
      by_list (y ∷ ys) e = let is : y ≡ x = cc in ap (λ (z : Bor Mapping). filter (all_bind (rows_of (y ∷ ys)) B) (columns_of z.now)) is

  unbound_in_first : (i : ℕ) → value_at x.now i ≡ None → all_bind (rows_of ls) B i ≡ false
  unbound_in_first i none = by_list ls is_first
    where
      by_list : (ys : List (Bor Mapping)) → Some x ≡ slice_get ys 0 → all_bind (rows_of ys) B i ≡ false
      by_list [] e = cc
      by_list (y ∷ ys) e =
          let is : y ≡ x = cc in
          let no : binds i y.now ≡ false = ap (λ (z : Bor Mapping). binds i z.now) is ∙ ap is_some none in
          ap (λ t. (t && list_all (binds i) (rows_of ys)) && list_all (binds i) B) no

  pub kept_before : (from c : ℕ) (kept : List ℕ) → IsFirstFrom x.now from c → kept ≡ filter (all_bind (rows_of ls) B) (range_with_len 0 from) →
      kept ≡ filter (all_bind (rows_of ls) B) (range_with_len 0 c)
  kept_before from c kept first h =
      skipped_to (all_bind (rows_of ls) B) from c kept first.after (λ i a b. unbound_in_first i (first.none_between i a b)) h

  pub kept_all : (from : ℕ) (kept : List ℕ) → IsNextBound x.now from None → from ≤ length x.now →
      kept ≡ filter (all_bind (rows_of ls) B) (range_with_len 0 from) → kept ≡ key_columns (rows_of ls) B
  kept_all from kept none le h =
      skipped_to (all_bind (rows_of ls) B) from (length x.now) kept le (λ i a b. unbound_in_first i (none i a)) h ∙ sym columns_of_first
