-- Rows that are shown at columns of which none stands twice.
use Rattle.std.proofs.Common.{◌≡◌, ◌∙◌, refl, sym, ap, ℕ, ◌+◌, ◌<◌, true, false, not, ◌&&◌, List, [], ◌∷◌, ◌++◌, map, drop, length, get_or, Option, Some, None, append_assoc}
use Rattle.std.specs.List.{list_any}
use Rattle.std.proofs.lemmas.Bool.{eqb-false, or_parts}
use Rattle.std.proofs.lemmas.List.{drop_more, get_or-set_other}
use Rattle.rdf_terms.specs.declared.term.Term.{Term}
use Rattle.sparql_values.specs.Mapping.{Mapping, value_in}
use Rattle.sparql_algebra.proofs.CallerLemmas.{and_left, and_right, not_true}
use Rattle.sparql_solve.specs.Shown.{apart, left_of, same_column}

-- what was taken at one column is none of what others have
other_left : (m : Mapping) (c d : Option ℕ) → same_column c d ≡ false → value_in (left_of m c) d ≡ value_in m d
other_left m None d h = refl
other_left m (Some c) None h = refl
other_left m (Some c) (Some d) h = get_or-set_other m c d None None (λ e. eqb-false c d h (sym e))

others_left : (m : Mapping) (c : Option ℕ) (columns : List (Option ℕ)) → list_any (same_column c) columns ≡ false → map (value_in (left_of m c)) columns ≡ map (value_in m) columns
others_left m c [] h = refl
others_left m c (d ∷ columns) h =
    let parts = or_parts (same_column c d) (list_any (same_column c) columns) h in
    λ i. other_left m c d parts.0 i ∷ others_left m c columns parts.1 i

-- ---- columns that are apart, one after another

pub apart_behind : (c : Option ℕ) (columns : List (Option ℕ)) → apart (c ∷ columns) ≡ true → apart columns ≡ true
apart_behind c columns h = and_right (not (list_any (same_column c) columns)) (apart columns) h

none_among : (c : Option ℕ) (columns : List (Option ℕ)) → apart (c ∷ columns) ≡ true → list_any (same_column c) columns ≡ false
none_among c columns h = not_true (list_any (same_column c) columns) (and_left (not (list_any (same_column c) columns)) (apart columns) h)

pub apart_from : (rest : List (Option ℕ)) (c : Option ℕ) (columns : List (Option ℕ)) → rest ≡ c ∷ columns → list_any (same_column c) columns ≡ false → apart columns ≡ true → apart rest ≡ true
apart_from rest c columns e none behind = ap apart e ∙ (λ i. not (none i) && behind i)

next_is : (columns : List (Option ℕ)) (i : ℕ) → i < length columns → drop i columns ≡ get_or columns i None ∷ drop (i + 1) columns
next_is columns i within = drop_more columns i None within

pub apart_more : (columns : List (Option ℕ)) (i : ℕ) → i < length columns → apart (drop i columns) ≡ true → apart (drop (i + 1) columns) ≡ true
apart_more columns i within h = apart_behind (get_or columns i None) (drop (i + 1) columns) (sym (ap apart (next_is columns i within)) ∙ h)

-- one value more was taken
pub moved_more : (own left : Mapping) (columns : List (Option ℕ)) (i : ℕ) (value : Option Term) (values after whole : Mapping) → i < length columns
    → apart (drop i columns) ≡ true → value ≡ value_in own (get_or columns i None) → left ≡ left_of own (get_or columns i None) → after ≡ values ++ value ∷ []
    → values ++ map (value_in own) (drop i columns) ≡ whole → after ++ map (value_in left) (drop (i + 1) columns) ≡ whole
moved_more own left columns i value values after whole within h ev el ea e =
    let c = get_or columns i None in
    let rest = drop (i + 1) columns in
    let next : drop i columns ≡ c ∷ rest = next_is columns i within in
    let none = none_among c rest (sym (ap apart next) ∙ h) in
    let others : map (value_in left) rest ≡ map (value_in own) rest = ap (λ (m : Mapping). map (value_in m) rest) el ∙ others_left own c rest none in
    ap (λ (l : Mapping). l ++ map (value_in left) rest) ea ∙ append_assoc values (value ∷ []) (map (value_in left) rest)
    ∙ (λ k. values ++ ev k ∷ others k)
    ∙ ap (λ (l : List (Option ℕ)). values ++ map (value_in own) l) (sym next) ∙ e
