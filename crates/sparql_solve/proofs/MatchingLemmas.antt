-- How often the matches of a basic graph pattern hold a mapping.
use Rattle.std.proofs.Common.{◌≡◌, ℕ, ◌+◌, ◌≤◌, Bool, true, false, cond, ◌&&◌, ◌||◌, List, [], ◌∷◌, ◌++◌, map, Option, Some, None, refl, sym, ap, ◌∙◌, append_assoc, append-nil, arith}
use Rattle.std.specs.List.{sum_by, count_by, filter_map, cons_option, list_all, IsLastAndRest}
use Rattle.std.proofs.lemmas.List.Elements.{filter_map-append}
use Rattle.std.proofs.lemmas.List.Sums.{sum_by-cons}
use Rattle.rdf_terms.specs.Quad.{QuadParts}
use Rattle.rdf_terms.specs.declared.term.Term.{Term}
use Rattle.sparql_trees.specs.declared.pattern.TriplePattern.{TriplePattern}
use Rattle.sparql_values.specs.Mapping.{Variables, Mapping, same_term, same_value, same_mapping}
use Rattle.sparql_algebra.specs.Solutions.{var_or_term, term_at, occurs, is_triple, holds, instance_lies}
use Rattle.sparql_algebra.specs.Growth.{grows}
use Rattle.sparql_algebra.proofs.CallerLemmas.{one, sum_by-cong, sum_by-flat_map, and_false, and_swap, and_assoc, sum_zero, sum_of_tests, at_most_once}
use Rattle.sparql_solve.specs.Matching.{places_of, matched, matches_of, stepped, matching}
use Rattle.sparql_solve.specs.declared.place.Places.{Places}
use Rattle.sparql_solve.proofs.GrowthLemmas.{opt, opt_and, is_term, is_instance, in_pattern, matched_grows}

abbrev pub num : {A : Type 0} → Option A → (A → ℕ) → ℕ
num None f = 0
num (Some x) f = f x

module _ {X Y : Type 0} where
  pub sum_by-filter_map : (f : Y → ℕ) (h : X → Option Y) (xs : List X) → sum_by f (filter_map h xs) ≡ sum_by (λ x. num (h x) f) xs
  sum_by-filter_map f h [] = refl
  sum_by-filter_map f h (x ∷ xs) = by_case (h x) (sum_by-filter_map f h xs) ∙ sym (sum_by-cons (λ y. num (h y) f) x xs)
    where
      by_case : (o : Option Y) → sum_by f (filter_map h xs) ≡ sum_by (λ y. num (h y) f) xs →
          sum_by f (cons_option o (filter_map h xs)) ≡ num o f + sum_by (λ y. num (h y) f) xs
      by_case None e = omega (arith, e)
      by_case (Some y) e = omega (arith, e, sum_by-cons f y (filter_map h xs))

-- ---- the matches of the last triple, after those of the others

module _ (p : Places) (m : Mapping) (quads others : List QuadParts) (last : QuadParts) (h : IsLastAndRest quads last others) (before after : List Mapping)
    (e : after ≡ before ++ matches_of others p m) where
  matches_split : before ++ matches_of quads p m ≡ after ++ matches_of (last ∷ []) p m
  matches_split =
      ap (λ (qs : List QuadParts). before ++ matches_of qs p m) h.0
      ∙ ap (λ (l : List Mapping). before ++ l) (filter_map-append (matched p m) others (last ∷ []))
      ∙ sym (append_assoc before (matches_of others p m) (matches_of (last ∷ []) p m))
      ∙ ap (λ (l : List Mapping). l ++ matches_of (last ∷ []) p m) (sym e)

  pub last_matched : (k : Mapping) (out : List Mapping) → Some k ≡ matched p m last → out ≡ after ++ k ∷ [] → out ≡ before ++ matches_of quads p m
  last_matched k out f g = g ∙ ap (λ (o : Option Mapping). after ++ cons_option o []) f ∙ sym matches_split

  pub last_unmatched : None ≡ matched p m last → after ≡ before ++ matches_of quads p m
  last_unmatched f = sym (append-nil after) ∙ ap (λ (o : Option Mapping). after ++ cons_option o []) f ∙ sym matches_split

num_one : {A : Type 0} (o : Option A) (f : A → Bool) → num o (λ x. one (f x)) ≡ one (opt o f)
num_one None f = refl
num_one (Some x) f = refl

and_turn : (a b c : Bool) → (a && (b && c)) ≡ (b && (c && a))
and_turn true true true = refl
and_turn true true false = refl
and_turn true false c = refl
and_turn false true true = refl
and_turn false true false = refl
and_turn false false c = refl

cond_one : (a b : Bool) → cond b (one a) 0 ≡ one (a && b)
cond_one true true = refl
cond_one true false = refl
cond_one false true = refl
cond_one false false = refl

-- no triple stands twice
abbrev pub IsSetOfTriples : List QuadParts → Type 0
IsSetOfTriples quads = (s p o : Term) → count_by (is_triple s p o) quads ≤ 1

-- the mapping w has grown from m, by the columns of the patterns, and their instances lie in the graph
abbrev pub reaches : Variables → List QuadParts → List TriplePattern → Mapping → Mapping → Bool
reaches vs g ps m w = list_all (instance_lies vs g w) ps && grows (occurs vs ps) m w

grows_none : (m w : Mapping) → grows (λ _. false) m w ≡ same_mapping w m
grows_none [] [] = refl
grows_none [] (y ∷ w) = refl
grows_none (x ∷ m) [] = refl
grows_none (Some t ∷ m) (y ∷ w) = ap (λ b. same_value y (Some t) && b) (grows_none m w)
grows_none (None ∷ m) (Some v ∷ w) = refl
grows_none (None ∷ m) (None ∷ w) = grows_none m w

module _ (vs : Variables) (g : List QuadParts) (set : IsSetOfTriples g) where
  count_of : (s q o : Option Term) →
      count_by (λ (t : QuadParts). is_term o t.object && (is_term s t.subject && is_term q t.predicate)) g ≡ one (holds g s q o)
  count_of (Some s) (Some q) (Some o) =
      sum_by-cong (λ (t : QuadParts). cond (same_term o t.object && (same_term s t.subject && same_term q t.predicate)) 1 0) (λ t. cond (is_triple s q o t) 1 0) g
      (λ t. ap one (and_turn (same_term o t.object) (same_term s t.subject) (same_term q t.predicate)))
      ∙ at_most_once (is_triple s q o) g (set s q o)
  count_of (Some s) (Some q) None = sum_zero _ g (λ t. refl)
  count_of (Some s) None o =
      sum_zero _ g (λ t. ap one (ap (λ b. is_term o t.object && b) (and_false (same_term s t.subject)) ∙ and_false (is_term o t.object)))
  count_of None q o = sum_zero _ g (λ t. ap one (and_false (is_term o t.object)))

  one_step : (p : TriplePattern) (ps : List TriplePattern) (m w : Mapping) →
      sum_by (λ k. one (reaches vs g ps k w)) (matches_of g (places_of vs p) m) ≡ one (reaches vs g (p ∷ ps) m w)
  one_step p ps m w =
      let L = list_all (instance_lies vs g w) ps in
      let G = grows (λ c. in_pattern vs p c || occurs vs ps c) m w in
      let P = places_of vs p in
      let each : (t : QuadParts) → num (matched P m t) (λ k. one (L && grows (occurs vs ps) k w)) ≡ one (is_instance vs w p t && (L && G)) = λ t.
      num_one (matched P m t) (λ k. L && grows (occurs vs ps) k w)
      ∙ ap one (opt_and L (matched P m t) (λ k. grows (occurs vs ps) k w) ∙ ap (λ b. L && b) (matched_grows vs (occurs vs ps) m w p t)
      ∙ and_swap L (is_instance vs w p t) G) in
      sum_by-filter_map (λ k. one (reaches vs g ps k w)) (matched P m) g
      ∙ sum_by-cong (λ t. num (matched P m t) (λ k. one (L && grows (occurs vs ps) k w))) (λ t. one (is_instance vs w p t && (L && G))) g each
      ∙ sum_of_tests (is_instance vs w p) (L && G) g
      ∙ ap (λ n. cond (L && G) n 0) (count_of (term_at vs w p.subject) (term_at vs w (var_or_term p.predicate)) (term_at vs w p.object))
      ∙ cond_one (instance_lies vs g w p) (L && G)
      ∙ ap one (sym (and_assoc (instance_lies vs g w p) L G))

  pub matching_counts : (w : Mapping) (ps : List TriplePattern) (ms : List Mapping) →
      count_by (same_mapping w) (matching g (map (places_of vs) ps) ms) ≡ sum_by (λ m. one (reaches vs g ps m w)) ms
  matching_counts w [] ms = sum_by-cong (λ m. cond (same_mapping w m) 1 0) (λ m. one (reaches vs g [] m w)) ms (λ m. ap one (sym (grows_none m w)))
  matching_counts w (p ∷ ps) ms =
      let P = places_of vs p in
      matching_counts w ps (stepped g ms P)
      ∙ sum_by-flat_map (λ k. one (reaches vs g ps k w)) (matches_of g P) ms
      ∙ sum_by-cong (λ m. sum_by (λ k. one (reaches vs g ps k w)) (matches_of g P m)) (λ m. one (reaches vs g (p ∷ ps) m w)) ms (λ m. one_step p ps m w)
