-- All columns of rows in their order.
use Rattle.std.proofs.Common.{◌≡◌, ℕ, ◌+◌, ◌<◌, ◌≤◌, List, [], ◌∷◌, ◌++◌, map, Option, Some, None, refl, sym, ap, ◌∙◌, length, take, drop, get_or, arith}
use Rattle.std.specs.List.{range_with_len}
use Rattle.std.proofs.lemmas.List.{take_more, take_all, drop_more, drop_all}
use Rattle.std.proofs.lemmas.List.FromFn.{fill_by_all, length-map-range_with_len, map-range_with_len_more}
use Rattle.sparql_values.specs.Mapping.{Mapping, value_at, value_in}

-- ---- the columns

pub column_more : (columns : List (Option ℕ)) (i : ℕ) → i < length columns → get_or columns i None ≡ Some i →
    take i columns ≡ map Some (range_with_len 0 i) → take (i + 1) columns ≡ map Some (range_with_len 0 (i + 1))
column_more columns i lt e h =
    take_more columns i None lt ∙ ap (λ (d : Option ℕ). take i columns ++ d ∷ []) e
    ∙ ap (λ (cs : List (Option ℕ)). cs ++ Some i ∷ []) h ∙ sym (map-range_with_len_more {X = Option ℕ} Some 0 i i (omega arith))

pub columns_done : (columns : List (Option ℕ)) (i : ℕ) → length columns ≤ i → take i columns ≡ map Some (range_with_len 0 i) →
    columns ≡ map Some (range_with_len 0 (length columns))
columns_done columns i le h =
    let e : columns ≡ map Some (range_with_len 0 i) = sym (take_all i columns le) ∙ h in
    let long : length columns ≡ i = ap length e ∙ length-map-range_with_len {X = Option ℕ} Some 0 i in
    e ∙ ap (λ n. map Some (range_with_len 0 n)) (sym long)

-- ---- the rows

values_at : (m : Mapping) (cs : List ℕ) → map (value_in m) (map Some cs) ≡ map (value_at m) cs
values_at m [] = refl
values_at m (c ∷ cs) = ap (λ (xs : Mapping). value_at m c ∷ xs) (values_at m cs)

all_values : (m : Mapping) → m ≡ map (value_at m) (range_with_len 0 (length m))
all_values m = fill_by_all (value_at m) m (length m) None refl (λ k lt. refl)

row_is : (columns : List (Option ℕ)) (m : Mapping) → columns ≡ map Some (range_with_len 0 (length columns)) → length m ≡ length columns → map (value_in m) columns ≡ m
row_is columns m e w =
    ap (map (value_in m)) e ∙ ap (λ n. map (value_in m) (map Some (range_with_len 0 n))) (sym w) ∙ values_at m (range_with_len 0 (length m)) ∙ sym (all_values m)

module _ (columns : List (Option ℕ)) (e : columns ≡ map Some (range_with_len 0 (length columns))) where
  pub row_more : (rows : List Mapping) (i : ℕ) (x : Mapping) → i < length rows → x ≡ get_or rows i x → length x ≡ length columns →
      (map (λ r. map (value_in r) columns) (drop i rows) ≡ drop i rows → map (λ r. map (value_in r) columns) rows ≡ rows) →
      map (λ r. map (value_in r) columns) (drop (i + 1) rows) ≡ drop (i + 1) rows → map (λ r. map (value_in r) columns) rows ≡ rows
  row_more rows i x lt here w h r =
      let f : Mapping → Mapping = λ m. map (value_in m) columns in
      let next : drop i rows ≡ x ∷ drop (i + 1) rows = drop_more rows i x lt ∙ ap (λ (y : Mapping). y ∷ drop (i + 1) rows) (sym here) in
      h (ap (map f) next ∙ ap (λ (y : Mapping). y ∷ map f (drop (i + 1) rows)) (row_is columns x e w) ∙ ap (λ (ys : List Mapping). x ∷ ys) r ∙ sym next)

pub rows_done : (columns : List (Option ℕ)) (rows : List Mapping) (i : ℕ) → length rows ≤ i →
    (map (λ (r : Mapping). map (value_in r) columns) (drop i rows) ≡ drop i rows → map (λ (r : Mapping). map (value_in r) columns) rows ≡ rows) →
    map (λ (r : Mapping). map (value_in r) columns) rows ≡ rows
rows_done columns rows i le h =
    let none : drop i rows ≡ [] = drop_all i rows le in
    h (ap (map (λ (r : Mapping). map (value_in r) columns)) none ∙ sym none)
