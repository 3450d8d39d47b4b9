-- All mappings of so many columns over the terms of a graph.
use Rattle.std.proofs.Common.{◌≡◌, ℕ, ◌+◌, ◌≤◌, zero, suc, Bool, true, false, cond, ◌&&◌, ◌||◌, List, [], ◌∷◌, map, Some, None, refl, ap, ◌∙◌, arith}
use Rattle.std.specs.List.{sum_by, count_by, list_any}
use Rattle.std.proofs.lemmas.List.Sums.{sum_by-cons}
use Rattle.rdf_terms.specs.declared.term.Term.{Term}
use Rattle.sparql_values.specs.Mapping.{Mapping, same_term, same_mapping}
use Rattle.sparql_algebra.specs.Solutions.{distinct, all_mappings}
use Rattle.sparql_algebra.proofs.Sums.{one, sum_by-cong, sum_by-flat_map, sum_by-map}
use Rattle.sparql_algebra.proofs.TruthLemmas.{cond_one}
use Rattle.sparql_algebra.proofs.TermLemmas.{same_term_is}
use Rattle.sparql_algebra.proofs.CountLemmas.{sum_zero, sum_of_tests, none_counted, at_most_once}

abbrev pub has_length : ℕ → Mapping → Bool
has_length zero [] = true
has_length zero (y ∷ w) = false
has_length (suc n) [] = false
has_length (suc n) (y ∷ w) = has_length n w

-- so many columns, with terms of the list
abbrev pub within : ℕ → List Term → Mapping → Bool
within zero T [] = true
within zero T (y ∷ w) = false
within (suc n) T [] = false
within (suc n) T (None ∷ w) = within n T w
within (suc n) T (Some t ∷ w) = list_any (same_term t) T && within n T w

-- one more column, in every way
abbrev pub longer : List Term → Mapping → List Mapping
longer T m = (None ∷ m) ∷ map (λ t. Some t ∷ m) T

count_longer : (T : List Term) (w m : Mapping) →
    count_by (same_mapping w) (longer T m) ≡ one (same_mapping w (None ∷ m)) + sum_by (λ t. one (same_mapping w (Some t ∷ m))) T
count_longer T w m =
    let head : count_by (same_mapping w) (longer T m) ≡ one (same_mapping w (None ∷ m)) + count_by (same_mapping w) (map (λ t. Some t ∷ m) T) =
    sum_by-cons _ (None ∷ m) (map (λ t. Some t ∷ m) T) in
    let tail : count_by (same_mapping w) (map (λ t. Some t ∷ m) T) ≡ sum_by (λ t. one (same_mapping w (Some t ∷ m))) T =
    sum_by-map (λ x. cond (same_mapping w x) 1 0) (λ t. Some t ∷ m) T in
    omega (arith, head, tail)

counted_if : {X : Type 0} (a : Bool) (q : X → Bool) (xs : List X) → sum_by (λ x. cond (q x) (one a) 0) xs ≡ cond a (count_by q xs) 0
counted_if true q xs = refl
counted_if false q xs = sum_zero (λ x. cond (q x) 0 0) xs (λ x. same_zero (q x))
  where
    same_zero : (b : Bool) → cond b (one false) (one false) ≡ one false
    same_zero true = refl
    same_zero false = refl

module _ (T : List Term) (once : (t : Term) → count_by (same_term t) T ≤ 1) where
  pub mappings_count : (n : ℕ) (w : Mapping) → count_by (same_mapping w) (all_mappings n T) ≡ one (within n T w)
  mappings_count zero [] = refl
  mappings_count zero (y ∷ w) = refl
  mappings_count (suc n) [] =
      sum_by-flat_map (λ x. cond (same_mapping [] x) 1 0) (longer T) (all_mappings n T)
      ∙ sum_zero (λ m. count_by (same_mapping []) (longer T m)) (all_mappings n T)
      (λ m. let z : sum_by (λ (t : Term). one false) T ≡ 0 = sum_zero (λ (t : Term). one false) T (λ t. refl) in omega (arith, count_longer T [] m, z))
  mappings_count (suc n) (None ∷ w) =
      sum_by-flat_map (λ x. cond (same_mapping (None ∷ w) x) 1 0) (longer T) (all_mappings n T)
      ∙ sum_by-cong (λ m. count_by (same_mapping (None ∷ w)) (longer T m)) (λ m. cond (same_mapping w m) 1 0) (all_mappings n T)
      (λ m. let z : sum_by (λ (t : Term). one false) T ≡ 0 = sum_zero (λ (t : Term). one false) T (λ t. refl) in
      omega (arith, count_longer T (None ∷ w) m, z))
      ∙ mappings_count n w
  mappings_count (suc n) (Some v ∷ w) =
      sum_by-flat_map (λ x. cond (same_mapping (Some v ∷ w) x) 1 0) (longer T) (all_mappings n T)
      ∙ sum_by-cong (λ m. count_by (same_mapping (Some v ∷ w)) (longer T m)) (λ m. cond (same_mapping w m) (one (list_any (same_term v) T)) 0) (all_mappings n T)
      (λ m. let s : sum_by (λ t. one (same_term v t && same_mapping w m)) T ≡ cond (same_mapping w m) (count_by (same_term v) T) 0 =
      sum_of_tests (same_term v) (same_mapping w m) T in
      let k : cond (same_mapping w m) (count_by (same_term v) T) 0 ≡ cond (same_mapping w m) (one (list_any (same_term v) T)) 0 =
      ap (λ k. cond (same_mapping w m) k 0) (at_most_once (same_term v) T (once v)) in
      omega (arith, count_longer T (Some v ∷ w) m, s, k))
      ∙ counted_if (list_any (same_term v) T) (same_mapping w) (all_mappings n T)
      ∙ ap (λ k. cond (list_any (same_term v) T) k 0) (mappings_count n w)
      ∙ cond_one (list_any (same_term v) T) (within n T w)

-- each term once
pub any_distinct : (t : Term) (ts : List Term) → list_any (same_term t) (distinct ts) ≡ list_any (same_term t) ts
any_distinct t [] = refl
any_distinct t (u ∷ ts) = by_test (list_any (same_term u) ts) refl (any_distinct t ts)
  where
    taken : (b : Bool) → same_term t u ≡ b → list_any (same_term u) ts ≡ true → list_any (same_term t) ts ≡ (b || list_any (same_term t) ts)
    taken true e h = ap (λ (z : Term). list_any (same_term z) ts) (same_term_is t u e) ∙ h
    taken false e h = refl

    by_test : (b : Bool) → list_any (same_term u) ts ≡ b → list_any (same_term t) (distinct ts) ≡ list_any (same_term t) ts →
        list_any (same_term t) (cond b (distinct ts) (u ∷ distinct ts)) ≡ (same_term t u || list_any (same_term t) ts)
    by_test true h r = r ∙ taken (same_term t u) refl h
    by_test false h r = ap (λ b. same_term t u || b) r

pub distinct_once : (t : Term) (ts : List Term) → count_by (same_term t) (distinct ts) ≤ 1
distinct_once t [] = omega arith
distinct_once t (u ∷ ts) = by_test (list_any (same_term u) ts) refl (distinct_once t ts)
  where
    counted : count_by (same_term t) (u ∷ distinct ts) ≡ one (same_term t u) + count_by (same_term t) (distinct ts)
    counted = sum_by-cons _ u (distinct ts)

    fresh : (b : Bool) → same_term t u ≡ b → list_any (same_term u) ts ≡ false → count_by (same_term t) (distinct ts) ≤ 1 →
        count_by (same_term t) (u ∷ distinct ts) ≤ 1
    fresh true e h r =
        let z : one (same_term t u) ≡ 1 = ap one e in
        let absent : list_any (same_term t) (distinct ts) ≡ false =
        any_distinct t ts ∙ ap (λ (z : Term). list_any (same_term z) ts) (same_term_is t u e) ∙ h in
        omega (arith, counted, z, none_counted (same_term t) (distinct ts) absent)
    fresh false e h r = let z : one (same_term t u) ≡ 0 = ap one e in omega (arith, counted, z, r)

    by_test : (b : Bool) → list_any (same_term u) ts ≡ b → count_by (same_term t) (distinct ts) ≤ 1 →
        count_by (same_term t) (cond b (distinct ts) (u ∷ distinct ts)) ≤ 1
    by_test true h r = r
    by_test false h r = fresh (same_term t u) refl h r
