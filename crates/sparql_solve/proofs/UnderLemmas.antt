-- A basic graph pattern looked up under a mapping gives its merges with the solutions.
use Rattle.std.proofs.Common.{◌≡◌, ℕ, ◌+◌, Bool, cond, ◌&&◌, List, [], ◌∷◌, ◌++◌, map, filter, Option, None, refl, sym, ap, ◌∙◌, subst, arith, length, take, replicate}
use Rattle.std.specs.List.{sum_by}
use Rattle.std.proofs.lemmas.List.{length-append, length-replicate}
use Rattle.rdf_terms.specs.Quad.{QuadParts}
use Rattle.rdf_terms.specs.declared.term.Term.{Term}
use Rattle.sparql_trees.specs.declared.pattern.BasicGraphPattern.{BasicGraphPattern}
use Rattle.sparql_values.specs.Mapping.{Variables, Mapping, same_mapping, agrees, first_of, compatible, merge}
use Rattle.sparql_algebra.specs.Bags.{SameBag}
use Rattle.sparql_algebra.specs.Solutions.{solves, terms_of, all_mappings, assignments, basic_solutions, merges}
use Rattle.sparql_algebra.proofs.CallerLemmas.{one, sum_by-cong, sum_by-filter, sum_by-map, sums_from_counts, same_mapping_is, same_mapping_own, SameBag-map, merges_grow, compatible_empty, filter-cong}
use Rattle.sparql_solve.specs.Matching.{places_of, matching}
use Rattle.sparql_solve.specs.LookUps.{widened, grown, looked_up}
use Rattle.sparql_solve.proofs.MatchingLemmas.{IsSetOfTriples, reaches, matching_counts}

-- ---- hidden columns

wide_compatible : (h : ℕ) (m s : Mapping) → compatible (m ++ replicate h None) s ≡ compatible m (take (length m) s)
wide_compatible h [] s = compatible_empty h s
wide_compatible h (x ∷ m) [] = refl
wide_compatible h (x ∷ m) (y ∷ s) = ap (λ b. agrees (x, y) && b) (wide_compatible h m s)

wide_merge : (h : ℕ) (m s : Mapping) → take (length m) (merge (m ++ replicate h None) s) ≡ merge m (take (length m) s)
wide_merge h [] s = refl
wide_merge h (x ∷ m) [] = refl
wide_merge h (x ∷ m) (y ∷ s) = ap (λ (w : Mapping). first_of (x, y) ∷ w) (wide_merge h m s)

pub sum_merges : (f : Mapping → ℕ) (B : List Mapping) (m : Mapping) → sum_by f (merges B m) ≡ sum_by (λ b. cond (compatible m b) (f (merge m b)) 0) B
sum_merges f B m = sum_by-map f (merge m) (filter (compatible m) B) ∙ sum_by-filter (λ b. f (merge m b)) (compatible m) B

-- the merges with what remains without the hidden columns
cut_merges : (h : ℕ) (m : Mapping) (A : List Mapping) → SameBag (map (take (length m)) (merges A (widened h m))) (merges (map (take (length m)) A) m)
cut_merges h m A f =
    sum_by-map f (take (length m)) (merges A (widened h m))
    ∙ sum_merges (λ w. f (take (length m) w)) A (widened h m)
    ∙ sum_by-cong (λ s. cond (compatible (widened h m) s) (f (take (length m) (merge (widened h m) s))) 0)
    (λ s. cond (compatible m (take (length m) s)) (f (merge m (take (length m) s))) 0) A
    (λ s. ap (λ b. cond b (f (take (length m) (merge (widened h m) s))) 0) (wide_compatible h m s)
    ∙ ap (λ (w : Mapping). cond (compatible m (take (length m) s)) (f w) 0) (wide_merge h m s))
    ∙ sym (sum_by-map (λ b. cond (compatible m b) (f (merge m b)) 0) (take (length m)) A)
    ∙ sym (sum_merges f (map (take (length m)) A) m)

-- ---- one graph

wide_length : (h : ℕ) (m : Mapping) → length (widened h m) ≡ length m + h
wide_length h m = length-append m (replicate h None) ∙ ap (λ k. length m + k) (length-replicate {A = Option Term} h None)

only : (b : Bool) → 0 + one b ≡ one b
only b = omega arith

module _ (vs : Variables) (quads : List QuadParts) (set : IsSetOfTriples quads) (b : BasicGraphPattern) where
  -- all columns: the merges with the assignments, each once
  pub grown_bag : (a : Mapping) → length a ≡ length vs + b.hidden →
      SameBag (matching quads (map (places_of vs) b.triples) (a ∷ [])) (merges (assignments vs quads b) a)
  grown_bag a e =
      subst (λ k. SameBag (matching quads (map (places_of vs) b.triples) (a ∷ [])) (merges (filter (solves vs quads b.triples) (all_mappings k (terms_of quads))) a)) e
      (sums_from_counts same_mapping same_mapping_is same_mapping_own (matching quads (map (places_of vs) b.triples) (a ∷ []))
      (merges (filter (solves vs quads b.triples) (all_mappings (length a) (terms_of quads))) a)
      (λ w. matching_counts vs quads set w b.triples (a ∷ []) ∙ only (reaches vs quads b.triples a w) ∙ sym (merges_grow vs quads b.triples a w)))

  pub looked_up_bag : (m : Mapping) → length m ≡ length vs →
      SameBag (looked_up quads (map (places_of vs) b.triples) b.hidden m) (merges (basic_solutions vs quads b) m)
  looked_up_bag m e f =
      SameBag-map (take (length m)) (matching quads (map (places_of vs) b.triples) (widened b.hidden m ∷ [])) (merges (assignments vs quads b) (widened b.hidden m))
      (grown_bag (widened b.hidden m) (wide_length b.hidden m ∙ ap (λ k. k + b.hidden) e)) f
      ∙ cut_merges b.hidden m (assignments vs quads b) f
      ∙ ap (λ k. sum_by f (merges (map (take k) (assignments vs quads b)) m)) e

-- the assignments whose mapping of the visible variables is compatible
pub pairs_bag : (vs : Variables) (quads : List QuadParts) → IsSetOfTriples quads → (b : BasicGraphPattern) (m : Mapping) → length m ≡ length vs →
    SameBag (grown quads (map (places_of vs) b.triples) b.hidden m)
    (map (merge (widened b.hidden m)) (filter (λ w. compatible m (take (length m) w)) (assignments vs quads b)))
pairs_bag vs quads set b m e f =
    grown_bag vs quads set b (widened b.hidden m) (wide_length b.hidden m ∙ ap (λ k. k + b.hidden) e) f
    ∙ ap (λ (ws : List Mapping). sum_by f (map (merge (widened b.hidden m)) ws))
    (filter-cong (compatible (widened b.hidden m)) (λ w. compatible m (take (length m) w)) (λ w. wide_compatible b.hidden m w) (assignments vs quads b))
