-- Rows with codes: what they have in common, and how they stand by them.
use Rattle.std.proofs.Common.{◌≡◌, ℕ, ◌+◌, ◌<◌, ◌≤◌, List, [], ◌∷◌, ◌++◌, length, take, drop, get_or, slice_index, Option, Some, None, All, IfSome, IsPermutation, IsSorted, refl, sym, ap, ◌∙◌, subst, arith, take-append-drop, inl, inr, ap₂, set}
use Rattle.std.specs.Cmp.{IsStrictWeakOrder}
use Rattle.std.specs.List.Sorted.{IsNonDecreasing, IsNonDecreasingBy, IsSortedBy}
use Rattle.std.specs.declared.cmp.Ordering.TheVariants.{Less}
use Rattle.std.proofs.lemmas.Bool.{cases_lt}
use Rattle.std.proofs.lemmas.List.{append_assoc, drop-map, get_or-map, get_or-take, length-map, length-take, map-set, set-get_or, take-map, take-take, take_more}
use Rattle.std.proofs.lemmas.List.Elements.{All-drop, All-more, All-take, All-weaker}
use Rattle.std.proofs.lemmas.List.Prefix.{front_fits, front_from_reads, front_rest}
use Rattle.std.proofs.lemmas.List.Sorted.{All-permutation, ranks_by}
use Rattle.rdf_terms.specs.declared.term.Term.{Term}
use Rattle.rdf_terms.specs.declared.term.Term.TheVariants.{Blank, Iri, Literal}
use Rattle.sparql_values.specs.Mapping.{Mapping, value_at}
use Rattle.sparql_algebra.specs.Order.{mapping_cmp}
use Rattle.sparql_algebra.proofs.CallerLemmas.{less, mapping_total}
use Rattle.sparql_solve.specs.Coded.{AreAlike, AreAlikeAt, AreRanked, BeginsWith, IsCoded, ShareStart, codes_of, rows_of, text_of}
use Rattle.sparql_solve.specs.declared.coded.CodedRow.{CodedRow}
use Rattle.sparql_solve.proofs.CodedLemmas.{row_less}

-- ---- rows without their codes, and codes without their rows

abbrev pub row_in : CodedRow → Mapping
row_in r = r.row

-- what holds of the rows holds of the row in each
pub each_row : (P : Mapping → Type 0) (rows : List CodedRow) → All P (rows_of rows) → All (λ r. P r.row) rows
each_row P rows h k d l =
    subst P (get_or-map row_in rows k d d.row l) (h k d.row (subst (λ n. k < n) (sym (length-map rows row_in)) l))

pub code_at : (rows : List CodedRow) (i : ℕ) (d : CodedRow) → i < length rows → slice_index (codes_of rows) i ≡ (get_or rows i d).code
code_at rows i d l = get_or-map (λ (r : CodedRow). r.code) rows i d 0 l

-- the codes from a place on up to another are one, and the next one is it too
pub codes_more : (rows : List CodedRow) (from to code : ℕ) (d : CodedRow) → to < length rows →
    ((k : ℕ) → from ≤ k → k < to → slice_index (codes_of rows) k ≡ code) → (get_or rows to d).code ≡ code →
    (k : ℕ) → from ≤ k → k < to + 1 → slice_index (codes_of rows) k ≡ code
codes_more rows from to code d l h e k a b =
    elim (cases_lt k to) [
      | inl lt ↦ h k a lt
      | inr le ↦ let is : k ≡ to = omega arith in ap (slice_index (codes_of rows)) is ∙ code_at rows to d l ∙ e
    ]

pub rising_codes : (rows : List CodedRow) → IsNonDecreasingBy (λ (r : CodedRow). r.code) rows → IsNonDecreasing (codes_of rows)
rising_codes rows h i j d le l =
    let e : CodedRow = record { code = d; row = [] } in
    let long : length (codes_of rows) ≡ length rows = length-map rows (λ (r : CodedRow). r.code) in
    omega (
      arith,
      get_or-map (λ (r : CodedRow). r.code) rows i e d (omega arith),
      get_or-map (λ (r : CodedRow). r.code) rows j e d (omega arith),
      h i j e le (omega arith),
    )

-- a row that gets another code is the same row
pub rows_set : (rows : List CodedRow) (i code : ℕ) (d : CodedRow) → i < length rows →
    rows_of (set rows i (record { code = code; row = (get_or rows i d).row })) ≡ rows_of rows
rows_set rows i code d l =
    map-set row_in rows i (record { code = code; row = (get_or rows i d).row })
    ∙ ap (set (rows_of rows) i) (sym (get_or-map row_in rows i d d.row l))
    ∙ set-get_or (rows_of rows) i d.row

-- ---- what texts begin with

begins_from : (start rest text : List ℕ) → text ≡ start ++ rest → text ≡ start ++ drop (length start) text
begins_from start rest text e = e ∙ ap (λ (xs : List ℕ). start ++ xs) (sym (front_rest text start rest e))

shorter : (start text : List ℕ) (n : ℕ) → text ≡ start ++ drop (length start) text → text ≡ take n start ++ drop (length (take n start)) text
shorter start text n e =
    begins_from (take n start) (drop n start ++ drop (length start) text) text
    (e ∙ ap (λ (xs : List ℕ). xs ++ drop (length start) text) (sym (take-append-drop n start)) ∙ append_assoc (take n start) (drop n start) (drop (length start) text))

pub begins_shorter : (start : List ℕ) (n : ℕ) (v : Option Term) → BeginsWith start v → BeginsWith (take n start) v
begins_shorter start n None h = h
begins_shorter start n (Some (Blank b)) h = h
begins_shorter start n (Some (Iri text)) h = shorter start text n h
begins_shorter start n (Some (Literal l)) h = shorter start l.lexical n h

begins_within : (start : List ℕ) (v : Option Term) → BeginsWith start v → IfSome (text_of v) (λ text. length start ≤ length text)
begins_within start None h = tt
begins_within start (Some (Blank b)) h = tt
begins_within start (Some (Iri text)) h = front_fits text start (drop (length start) text) h
begins_within start (Some (Literal l)) h = front_fits l.lexical start (drop (length start) l.lexical) h

pub start_within : (column many : ℕ) (rows : List CodedRow) (i : ℕ) (d : CodedRow) → i < length rows → ShareStart column many (rows_of rows) →
    IfSome (text_of (value_at (get_or rows i d).row column)) (λ text. many ≤ length text)
start_within column many rows i d l h =
    subst (λ n. IfSome (text_of (value_at (get_or rows i d).row column)) (λ text. n ≤ length text)) h.many_are
    (begins_within h.start (value_at (get_or rows i d).row column)
    (each_row (λ m. BeginsWith h.start (value_at m column)) rows h.each i d l))

-- a text that has the same as another on so many first places
pub begins_alike : (first text : List ℕ) (n : ℕ) (v : Option Term) → text_of v ≡ Some text → n ≤ length first → n ≤ length text →
    ((k : ℕ) → k < n → slice_index first k ≡ slice_index text k) → BeginsWith (take n first) v
begins_alike first text n v e l m same =
    subst (λ o. IfSome o (λ t. t ≡ take n first ++ drop (length (take n first)) t)) (sym e)
    (front_from_reads 0 text (take n first) (omega (arith, length-take n first)) (λ i h.
    let at : i < n = omega (arith, h, length-take n first) in sym (get_or-take n first i 0 at ∙ same i at)))

pub begins_none : (start : List ℕ) (v : Option Term) → text_of v ≡ None → BeginsWith start v
begins_none start v e = subst (λ o. IfSome o (λ t. t ≡ start ++ drop (length start) t)) (sym e) tt

-- the start of the texts so far, cut to what the next one begins with
pub shared_more : (first : List ℕ) (many n column i : ℕ) (rows : List CodedRow) (d : CodedRow) → i < length rows → n ≤ many →
    All (λ r. BeginsWith (take many first) (value_at r.row column)) (take i rows) →
    BeginsWith (take n (take many first)) (value_at (get_or rows i d).row column) →
    All (λ r. BeginsWith (take n first) (value_at r.row column)) (take (i + 1) rows)
shared_more first many n column i rows d l le h next =
    subst (λ start. All (λ r. BeginsWith start (value_at r.row column)) (take (i + 1) rows)) (take-take n many first le)
    (All-more (λ r. BeginsWith (take n (take many first)) (value_at r.row column)) rows i d l
    (All-weaker (λ r. BeginsWith (take many first) (value_at r.row column)) (λ r. BeginsWith (take n (take many first)) (value_at r.row column))
    (λ r b. begins_shorter (take many first) n (value_at r.row column) b) (take i rows) h) next)

-- ---- ranks

pub ranked : (column skipped : ℕ) (rows : List CodedRow) → AreAlike column (rows_of rows) → ShareStart column skipped (rows_of rows) →
    All (IsCoded column skipped) rows → AreRanked rows
ranked column skipped rows alike shared coded i d l j e m lt =
    let a : CodedRow = get_or rows i d in
    let b : CodedRow = get_or rows j e in
    let is : IsCoded column (length shared.start) a = subst (λ n. IsCoded column n a) (sym shared.many_are) (coded i d l) in
    let other : IsCoded column (length shared.start) b = subst (λ n. IsCoded column n b) (sym shared.many_are) (coded j e m) in
    let same : All (λ (r : CodedRow). take column r.row ≡ alike.before) rows = each_row (λ n. take column n ≡ alike.before) rows alike.each in
    let begins : All (λ (r : CodedRow). BeginsWith shared.start (value_at r.row column)) rows =
    each_row (λ n. BeginsWith shared.start (value_at n column)) rows shared.each in
    row_less shared.start column a.row b.row (same i d l ∙ sym (same j e m)) (begins i d l) (begins j e m) other.bytes
    (omega (arith, lt, is.code, other.code))

abbrev pub Follows : CodedRow → CodedRow → Type 0
Follows a b = a.code < b.code → mapping_cmp a.row b.row ≡ Less

pub ranked_permutation : (xs ys : List CodedRow) → IsPermutation xs ys → AreRanked xs → AreRanked ys
ranked_permutation xs ys p h =
    All-permutation (λ a. All (Follows a) ys) xs ys p
    (All-weaker (λ a. All (Follows a) xs) (λ a. All (Follows a) ys) (λ a k. All-permutation (Follows a) xs ys p k) xs h)

-- ---- rows that are alike

pub alike_before_all : (rows : List Mapping) → AreAlike 0 rows
alike_before_all rows = record { before = []; each = λ k d l. refl }

pub alike_permutation : (column : ℕ) (xs ys : List Mapping) → IsPermutation xs ys → AreAlike column xs → AreAlike column ys
alike_permutation column xs ys p h = record { before = h.before; each = All-permutation (λ m. take column m ≡ h.before) xs ys p h.each }

pub alike_part : (column from n : ℕ) (rows : List CodedRow) → AreAlike column (rows_of rows) → AreAlike column (rows_of (take n (drop from rows)))
alike_part column from n rows h =
    let part : take n (drop from (rows_of rows)) ≡ rows_of (take n (drop from rows)) =
    ap (take n) (drop-map row_in from rows) ∙ take-map row_in n (drop from rows) in
    let Has : Mapping → Type 0 = λ m. take column m ≡ h.before in
    record { before = h.before; each = subst (All Has) part (All-take Has n (drop from (rows_of rows)) (All-drop Has from (rows_of rows) h.each)) }

pub alike_more : (column : ℕ) (rows : List Mapping) → AreAlike column rows → AreAlikeAt column rows → AreAlike (column + 1) rows
alike_more column rows h at = record {
  before = h.before ++ at.value ∷ [];
  each = λ k d l.
      take_more (get_or rows k d) column None (at.each k d l).0
      ∙ ap₂ (λ (front : Mapping) (v : Option Term). front ++ v ∷ []) (h.each k d l) (at.each k d l).1;
}

-- ---- sorted rows

pub sorted_rows : (rows : List CodedRow) → IsSortedBy (λ (a b : CodedRow). less a.row b.row) rows → IsSorted mapping_cmp (rows_of rows)
sorted_rows rows h k d low up =
    let e : CodedRow = record { code = 0; row = d } in
    let long : length (rows_of rows) ≡ length rows = length-map rows row_in in
    ap₂ less (get_or-map row_in rows (k + 1) e d (omega arith)) (get_or-map row_in rows k e d (omega arith)) ∙ h k e low (omega arith)

pub rows_rank : IsStrictWeakOrder (λ (a b : CodedRow). less a.row b.row)
rows_rank = ranks_by mapping_total row_in
