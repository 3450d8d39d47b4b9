-- Rows as lists.
use Rattle.std.proofs.Common.{◌≡◌, ℕ, ◌+◌, ◌<◌, Bool, true, false, ◌&&◌, List, [], ◌∷◌, ◌++◌, map, Option, is_none, refl, sym, ap, ◌∙◌, ◌⊎◌, inl, inr, append-nil, append_assoc, arith, length, drop, get_or, nat_eq}
use Rattle.std.proofs.lemmas.Bool.{eqb-false}
use Rattle.std.proofs.lemmas.List.{drop_more, length-map}
use Rattle.std.specs.List.{list_all, zip}
use Rattle.rdf_terms.specs.declared.term.Term.{Term}
use Rattle.sparql_values.specs.Mapping.{Mapping, same_mapping, same_value, value_in}
use Rattle.sparql_algebra.proofs.CallerLemmas.{same_mapping_is}
use Rattle.sparql_solve.specs.Under.{shown}

module _ {A B : Type 0} where
  zip_none : (xs : List A) (ys : List B) → ys ≡ [] → zip xs ys ≡ []
  zip_none [] ys e = refl
  zip_none (x ∷ xs) [] e = refl
  zip_none (x ∷ xs) (y ∷ ys) e = cc

module _ {A B C : Type 0} where
  -- where one of two lists has come to its end, no pair is left
  pub zip_done : (f : A × B → C) (out whole : List C) (xs : List A) (ys : List B) → out ++ map f (zip xs ys) ≡ whole → (xs ≡ []) ⊎ (ys ≡ []) → out ≡ whole
  zip_done f out whole xs ys e (inl none) = sym (append-nil out) ∙ ap (λ l. out ++ map f (zip l ys)) (sym none) ∙ e
  zip_done f out whole xs ys e (inr none) =
      sym (append-nil out) ∙ ap (λ l. out ++ map f l) (sym (zip_none xs ys none)) ∙ e

module _ {A B : Type 0} where
  -- one more element of a list is mapped
  pub map_more : (f : A → B) (xs : List A) (i : ℕ) (x : A) (out after : List B) (y : B) (whole : List B) → i < length xs → x ≡ get_or xs i x →
      out ++ map f (drop i xs) ≡ whole → y ≡ f x → after ≡ out ++ y ∷ [] → after ++ map f (drop (i + 1) xs) ≡ whole
  map_more f xs i x out after y whole lt here h ey ea =
      let rest = map f (drop (i + 1) xs) in
      let next : drop i xs ≡ x ∷ drop (i + 1) xs = drop_more xs i x lt ∙ ap (λ (z : A). z ∷ drop (i + 1) xs) (sym here) in
      ap (λ (l : List B). l ++ rest) ea ∙ append_assoc out (y ∷ []) rest ∙ ap (λ (z : B). out ++ z ∷ rest) ey
      ∙ sym (ap (λ (zs : List A). out ++ map f zs) next) ∙ h

-- the mapping has the value at the column
abbrev pub has_value : Mapping → Option ℕ × Option Term → Bool
has_value m (column, value) = same_value (value_in m column) value

-- the columns of a mapping compared with another mapping, of as many values
pub projected_all : (m : Mapping) (columns : List (Option ℕ)) (other : Mapping) → length columns ≡ length other →
    list_all (has_value m) (zip columns other) ≡ same_mapping (map (value_in m) columns) other
projected_all m [] [] e = refl
projected_all m [] (y ∷ other) e = cc
projected_all m (k ∷ columns) [] e = cc
projected_all m (k ∷ columns) (y ∷ other) e =
    let rest : length columns ≡ length other = omega (arith, e) in
    ap (λ b. same_value (value_in m k) y && b) (projected_all m columns other rest)

-- or of another number of values
pub projected_apart : (m : Mapping) (columns : List (Option ℕ)) (other : Mapping) → nat_eq (length columns) (length other) ≡ false →
    false ≡ same_mapping (map (value_in m) columns) other
projected_apart m columns other e = by_test (same_mapping (map (value_in m) columns) other) refl
  where
    by_test : (b : Bool) → same_mapping (map (value_in m) columns) other ≡ b → false ≡ b
    by_test false h = refl
    by_test true h =
        absurd (eqb-false (length columns) (length other) e (sym (length-map columns (value_in m)) ∙ ap length (same_mapping_is (map (value_in m) columns) other h)))

-- nothing is shown of a value
abbrev pub nothing_shown : Option Term × Bool → Bool
nothing_shown p = is_none (shown p)

pub nothing_shown_all : (ps : List (Option Term × Bool)) → list_all nothing_shown ps ≡ list_all is_none (map shown ps)
nothing_shown_all [] = refl
nothing_shown_all (p ∷ ps) = ap (λ b. is_none (shown p) && b) (nothing_shown_all ps)
