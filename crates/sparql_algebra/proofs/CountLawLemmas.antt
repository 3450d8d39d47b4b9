-- What the operators make of counts.
use Rattle.std.proofs.Common.{◌≡◌, ℕ, ◌+◌, ◌≤◌, Bool, true, false, cond, ◌&&◌, List, [], ◌∷◌, Option, Some, None, length, take, filter, refl, sym, ap, ◌∙◌, arith, nat_eq}
use Rattle.std.specs.List.{sum_by, count_by, list_all}
use Rattle.std.proofs.lemmas.Bool.{eqb-true, eq-eqb}
use Rattle.std.proofs.lemmas.List.Sums.{sum_by-cons}
use Rattle.rdf_terms.specs.Quad.{QuadParts}
use Rattle.rdf_terms.specs.declared.term.Term.{Term}
use Rattle.rdf_terms.specs.declared.quad.GraphName.{GraphName}
use Rattle.rdf_terms.specs.declared.quad.GraphName.TheVariants.{Named}
use Rattle.rdf_dataset.specs.Sorted.{ListsOnce}
use Rattle.rdf_dataset.specs.State.{State}
use Rattle.sparql_trees.specs.declared.pattern.BasicGraphPattern.{BasicGraphPattern}
use Rattle.sparql_trees.specs.declared.pattern.TriplePattern.{TriplePattern}
use Rattle.sparql_algebra.specs.Bags.{SameBag}
use Rattle.sparql_algebra.specs.Counts.{always, ListsCounted, pairs_count, begins_pair, widens, VariableLaw}
use Rattle.sparql_algebra.specs.Laws.{held, instance_held, is_assignment, AssignmentsCountOnce, AssignmentsListed}
use Rattle.sparql_algebra.specs.Listing.{Listing, graph_quads, listing_of}
use Rattle.sparql_values.specs.Mapping.{Variables, Mapping, same_mapping, single}
use Rattle.sparql_algebra.specs.Solutions.{var_or_term, term_at, holds, instance_lies, occurs, binds_exactly, solves, assignments, basic_solutions, joins, left_joins, solutions}
use Rattle.sparql_algebra.proofs.Sums.{one, sum_by-cong, sum_by-filter, sum_by-map, sum_by-flat_map, sums_from_counts}
use Rattle.sparql_algebra.proofs.TruthLemmas.{both_true, cond_one}
use Rattle.sparql_algebra.proofs.TermLemmas.{same_mapping_is, same_mapping_own}
use Rattle.sparql_algebra.proofs.UniverseLemmas.{has_length}
use Rattle.sparql_algebra.proofs.AssignmentLemmas.{assignments_count}
use Rattle.sparql_algebra.proofs.ListingLemmas.{there_is_a_listing, triple_listed}
use Rattle.sparql_algebra.proofs.LengthLemmas.{length_from, length_to}
use Rattle.sparql_algebra.proofs.Regroup.{times, left_join_law, filter_law, single_law, each_once, each_once_lists}

-- ---- basic graph patterns

length_is : (n : ℕ) (w : Mapping) → has_length n w ≡ nat_eq (length w) n
length_is n w =
    both_true (has_length n w) (nat_eq (length w) n) (λ h. eq-eqb (length w) n (length_from n w h)) (λ h. length_to n w (eqb-true (length w) n h))

length_sum : {X : Type 0} (xs : List X) → sum_by (λ (x : X). 1) xs ≡ length xs
length_sum [] = refl
length_sum {X = X} (x ∷ xs) = omega (arith, sum_by-cons (λ (y : X). 1) x xs, length_sum xs)

module _ (variables : Variables) (quads : List QuadParts) (b : BasicGraphPattern) (m : Mapping) where
  abbrev fits : Mapping → Bool
  fits w = same_mapping m (take (length variables) w)

  fitting_counts : (w : Mapping) → count_by (same_mapping w) (filter fits (assignments variables quads b)) ≡ one (widens variables quads b m w)
  fitting_counts w =
      filter_law fits (assignments variables quads b) w
      ∙ ap (λ n. cond (fits w) n 0) (assignments_count variables quads b w)
      ∙ cond_one (fits w) (has_length (length variables + b.hidden) w && solves variables quads b.triples w)
      ∙ ap (λ z. one (fits w && (z && solves variables quads b.triples w))) (length_is (length variables + b.hidden) w)

  pub basic_law : (W : List Mapping) → ((w : Mapping) → count_by (same_mapping w) W ≡ cond (widens variables quads b m w) 1 0) →
      count_by (same_mapping m) (basic_solutions variables quads b) ≡ length W
  basic_law W h =
      let same : SameBag (filter fits (assignments variables quads b)) W =
      sums_from_counts same_mapping same_mapping_is same_mapping_own (filter fits (assignments variables quads b)) W (λ w. fitting_counts w ∙ sym (h w)) in
      sum_by-map (λ x. cond (same_mapping m x) 1 0) (take (length variables)) (assignments variables quads b)
      ∙ sym (sum_by-filter (λ _. 1) fits (assignments variables quads b))
      ∙ same (λ _. 1)
      ∙ length_sum W

-- in the state's own words

module _ (s : State) (g : GraphName) (quads : List QuadParts) (h : ListsOnce (graph_quads s g) quads) where
  held_is : (a b c : Option Term) → holds quads a b c ≡ held s g a b c
  held_is (Some a) (Some b) (Some c) = triple_listed s g quads h a b c
  held_is (Some a) (Some b) None = refl
  held_is (Some a) None c = refl
  held_is None b c = refl

  all_held : (variables : Variables) (w : Mapping) (ps : List TriplePattern) → list_all (instance_lies variables quads w) ps ≡ list_all (instance_held s g variables w) ps
  all_held variables w [] = refl
  all_held variables w (p ∷ ps) =
      ap (λ z. z && list_all (instance_lies variables quads w) ps)
      (held_is (term_at variables w p.subject) (term_at variables w (var_or_term p.predicate)) (term_at variables w p.object))
      ∙ ap (λ z. instance_held s g variables w p && z) (all_held variables w ps)

  widens_is : (variables : Variables) (b : BasicGraphPattern) (m w : Mapping) → widens variables quads b m w ≡ is_assignment s g variables b m w
  widens_is variables b m w =
      ap (λ z. same_mapping m (take (length variables) w) && (nat_eq (length w) (length variables + b.hidden) && (z && binds_exactly (occurs variables b.triples) w)))
      (all_held variables w b.triples)

pub assignments_count_once : AssignmentsCountOnce
assignments_count_once s d h variables g b m W counted =
    basic_law variables (d.quads g) b m W (λ w. counted w ∙ ap one (sym (widens_is s g (d.quads g) (h.quads g) variables b m w)))

pub assignments_listed : AssignmentsListed
assignments_listed s g variables b m =
    let quads : List QuadParts = (listing_of s).quads g in (
      filter (λ w. same_mapping m (take (length variables) w)) (assignments variables quads b),
      λ w. fitting_counts variables quads b m w ∙ ap one (widens_is s g quads ((there_is_a_listing s).quads g) variables b m w),
    )

-- ---- graphs

pub cond_counts : (b : Bool) (xs : List Mapping) (m : Mapping) → count_by (same_mapping m) (cond b xs []) ≡ cond b (count_by (same_mapping m) xs) 0
cond_counts true xs m = refl
cond_counts false xs m = refl

pub variable_law : (vs : Variables) (d : Listing) → VariableLaw vs d
variable_law vs d g name A U lu m =
    sum_by-flat_map (λ x. cond (same_mapping m x) 1 0) (λ (n : Term). joins (solutions vs d (Named n) A) (single vs name n ∷ [])) d.names
    ∙ sum_by-cong (λ n. times (joins (solutions vs d (Named n) A) (single vs name n ∷ [])) m)
    (λ n. pairs_count always (U n) (single vs name n ∷ []) (times (solutions vs d (Named n) A)) (λ _. 1) m) d.names
    (λ n. single_law (solutions vs d (Named n) A) (U n) (single vs name n) (lu n) m)

-- ---- LeftJoin

pub lonely_stay : (F : Mapping → Bool) (A B V : List Mapping) → ListsCounted V (times B) → (m : Mapping) → begins_pair F V m ≡ false →
    times A m ≤ times (left_joins A B F) m
lonely_stay F A B V lv m h =
    let e : times (left_joins A B F) m ≡ pairs_count F (each_once A) V (times A) (times B) m + cond (begins_pair F V m) 0 (times A m) =
    left_join_law F A B (each_once A) V (each_once_lists A) lv m in
    let z : cond (begins_pair F V m) 0 (times A m) ≡ times A m = ap (λ b. cond b 0 (times A m)) h in
    omega (arith, e, z)
