-- The text of a row tells its values.
use Rattle.std.proofs.Common.{◌≡◌, ◌∙◌, ap, refl, sym, ℕ, suc, arith, true, List, [], ◌∷◌, ◌++◌, length, get_or, drop, codes, append_assoc, true≢false, Option}
use Rattle.std.specs.List.{flat_map, list_any}
use Rattle.std.proofs.lemmas.Bool.{or_parts}
use Rattle.rdf_terms.specs.declared.term.Term.{Term}
use Rattle.sparql_results.specs.ResultsText.{field_text}
use Rattle.sparql_results.specs.RowLaws.{AreValues, RowsDiffer}
use Rattle.sparql_results.proofs.FieldLemmas.{NoEnd, field_closed, fields_differ, is_end}

-- two fields that end are the same
cut : (u v r s : List ℕ) (a b : ℕ) → NoEnd u → NoEnd v → is_end a ≡ true → is_end b ≡ true → u ++ a ∷ r ≡ v ++ b ∷ s → (u ≡ v) × (a ∷ r ≡ b ∷ s)
cut [] [] r s a b p q h k e = (refl, e)
cut [] (y ∷ v) r s a b p q h k e =
    absurd (true≢false (sym h ∙ ap (λ l. is_end (get_or l 0 0)) e ∙ (or_parts (is_end y) (list_any is_end v) q).0))
cut (x ∷ u) [] r s a b p q h k e =
    absurd (true≢false (sym k ∙ ap (λ l. is_end (get_or l 0 0)) (sym e) ∙ (or_parts (is_end x) (list_any is_end u) p).0))
cut (x ∷ u) (y ∷ v) r s a b p q h k e =
    let first : x ≡ y = ap (λ l. get_or l 0 0) e in
    let more = cut u v r s a b (or_parts (is_end x) (list_any is_end u) p).1 (or_parts (is_end y) (list_any is_end v) q).1 h k (ap (drop 1) e) in
    (λ i. first i ∷ more.0 i, more.1)

-- what comes behind the first field
abbrev behind : List (Option Term) → List ℕ
behind values = flat_map (λ value. codes "\t" ++ field_text value) values ++ codes "\n"

cut_behind : (u v : List ℕ) (xs ys : List (Option Term)) → NoEnd u → NoEnd v → u ++ behind xs ≡ v ++ behind ys → (u ≡ v) × (behind xs ≡ behind ys)
cut_behind u v [] [] p q e = cut u v [] [] 10 10 p q refl refl e
cut_behind u v [] (y ∷ ys) p q e = cut u v [] (drop 1 (behind (y ∷ ys))) 10 9 p q refl refl e
cut_behind u v (x ∷ xs) [] p q e = cut u v (drop 1 (behind (x ∷ xs))) [] 9 10 p q refl refl e
cut_behind u v (x ∷ xs) (y ∷ ys) p q e = cut u v (drop 1 (behind (x ∷ xs))) (drop 1 (behind (y ∷ ys))) 9 9 p q refl refl e

-- a field, and what comes behind it
opened : (x : Option Term) (xs : List (Option Term)) → (field_text x ++ flat_map (λ value. codes "\t" ++ field_text value) xs) ++ codes "\n" ≡ field_text x ++ behind xs
opened x xs = append_assoc (field_text x) (flat_map (λ value. codes "\t" ++ field_text value) xs) (codes "\n")

no_width : {A : Type 0} (n : ℕ) → 0 ≡ suc n → A
no_width n e = absurd (omega arith)

same_behind : (xs ys : List (Option Term)) → length xs ≡ length ys → AreValues xs → AreValues ys → behind xs ≡ behind ys → xs ≡ ys
same_behind [] [] n a b e = refl
same_behind [] (y ∷ ys) n a b e = no_width (length ys) n
same_behind (x ∷ xs) [] n a b e = no_width (length xs) (sym n)
same_behind (x ∷ xs) (y ∷ ys) n a b e =
    let parts = cut_behind (field_text x) (field_text y) xs ys (field_closed x a.0) (field_closed y b.0) (sym (opened x xs) ∙ ap (drop 1) e ∙ opened y ys) in
    let value = fields_differ x y a.0 b.0 parts.0 in
    let more = same_behind xs ys (omega (arith, n)) a.1 b.1 parts.1 in
    λ i. value i ∷ more i

pub rows_differ : RowsDiffer
rows_differ [] [] n a b e = refl
rows_differ [] (y ∷ ys) n a b e = no_width (length ys) n
rows_differ (x ∷ xs) [] n a b e = no_width (length xs) (sym n)
rows_differ (x ∷ xs) (y ∷ ys) n a b e =
    let parts = cut_behind (field_text x) (field_text y) xs ys (field_closed x a.0) (field_closed y b.0) (sym (opened x xs) ∙ e ∙ opened y ys) in
    let value = fields_differ x y a.0 b.0 parts.0 in
    let more = same_behind xs ys (omega (arith, n)) a.1 b.1 parts.1 in
    λ i. value i ∷ more i
