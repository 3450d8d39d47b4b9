-- What solutions bind.
use Rattle.std.proofs.Common.{◌≡◌, ℕ, zero, suc, ◌+◌, Bool, true, false, cond, ◌&&◌, List, [], ◌∷◌, map, filter, Option, Some, None, refl, sym, ap, ◌∙◌, subst, length, take, replicate, slice_set}
use Rattle.std.specs.Bool.{IsTrue}
use Rattle.std.specs.Option.{IfSome}
use Rattle.std.specs.Ordering.{eq_by_cmp}
use Rattle.std.specs.List.{AllByRecursion, list_any, list_all}
use Rattle.std.specs.FinSet.{contains, contains-items, items}
use Rattle.rdf_terms.specs.Below.{IsTermBelow}
use Rattle.rdf_terms.specs.Order.{quad_cmp}
use Rattle.rdf_terms.specs.OrderLaws.{term_cmp_total, term_cmp-IsAntisymmetric, quad_cmp_total, quad_cmp-IsAntisymmetric}
use Rattle.rdf_terms.specs.Quad.{QuadParts, has_right_kinds, is_graph, is_quad}
use Rattle.rdf_terms.specs.Term.{is_term}
use Rattle.rdf_terms.specs.declared.term.Term.{Term}
use Rattle.rdf_terms.specs.declared.term.Term.TheVariants as t
use Rattle.rdf_terms.specs.declared.quad.GraphName.{GraphName}
use Rattle.rdf_terms.specs.declared.quad.GraphName.TheVariants.{Named}
use Rattle.rdf_dataset.specs.State.{State}
use Rattle.sparql_trees.specs.declared.pattern.Pattern.{Pattern}
use Rattle.sparql_trees.specs.declared.pattern.VarOrIri.TheVariants as v
use Rattle.sparql_algebra.specs.Algebra as algebra
use Rattle.sparql_algebra.specs.Algebra.{Algebra, basic, join, left_join, union, minus, graph, translation}
use Rattle.sparql_algebra.specs.Bound.{stands_in, is_term_of, AllValues}
use Rattle.sparql_algebra.specs.Laws.{SolutionsOfState, SolutionsOfTerms, SolutionsBelow}
use Rattle.sparql_algebra.specs.Listing.{Listing, graph_quads, listing_of}
use Rattle.sparql_algebra.specs.Results.{pattern_solutions, projected}
use Rattle.sparql_algebra.specs.Solutions.{distinct, solves, terms_of, all_mappings, assignments, merges, joins, or_alone, left_joins, shares, left_by, satisfies, solutions}
use Rattle.sparql_algebra.specs.Sorted.{sorted_solutions}
use Rattle.sparql_values.specs.Mapping.{Variables, Mapping, same_term, column, value_at, value_in, value_of, set_in, empty_mapping, single, first_of, compatible, merge}
use Rattle.sparql_trees.specs.Visible.{named, visible}
use Rattle.sparql_algebra.proofs.TruthLemmas.{and_left, and_right, and_true, or_left, or_right, or_cases}
use Rattle.sparql_algebra.proofs.TermLemmas.{same_term_is, same_term_own}
use Rattle.sparql_algebra.proofs.AssignmentLemmas.{all_terms}
use Rattle.sparql_algebra.proofs.UniverseLemmas.{longer}
use Rattle.sparql_algebra.proofs.LengthLemmas.{all_append, all_filter, all_cond, all_map, all_flat_map}
use Rattle.sparql_algebra.proofs.ListingLemmas.{in_graph, same_quad_is, there_is_a_listing}
use Rattle.sparql_algebra.proofs.SetLemmas as sets
use Rattle.sparql_algebra.proofs.SortedLemmas.{all_sort}

-- ---- a test that the terms of the graphs and their names pass

module _ (p : Term → Bool) where
  abbrev value_passes : Option Term → Bool
  value_passes (Some t) = p t
  value_passes None = true

  abbrev row_passes : Mapping → Bool
  row_passes m = list_all value_passes m

  abbrev quad_passes : QuadParts → Bool
  quad_passes q = p q.subject && (p q.predicate && p q.object)

  -- mappings

  first_passes : (x y : Option Term) → value_passes x ≡ true → value_passes y ≡ true → value_passes (first_of (x, y)) ≡ true
  first_passes (Some s) y h k = h
  first_passes None y h k = k

  merge_passes : (a b : Mapping) → row_passes a ≡ true → row_passes b ≡ true → row_passes (merge a b) ≡ true
  merge_passes [] b h k = refl
  merge_passes (x ∷ a) [] h k = refl
  merge_passes (x ∷ a) (y ∷ b) h k =
      ap (λ c. c && row_passes (merge a b)) (first_passes x y (and_left (value_passes x) _ h) (and_left (value_passes y) _ k))
      ∙ merge_passes a b (and_right (value_passes x) _ h) (and_right (value_passes y) _ k)

  empty_passes : (n : ℕ) → row_passes (replicate n None) ≡ true
  empty_passes zero = refl
  empty_passes (suc n) = empty_passes n

  set_passes : (m : Mapping) (place : ℕ) (t : Term) → p t ≡ true → row_passes m ≡ true → row_passes (slice_set m place (Some t)) ≡ true
  set_passes [] zero t e h = refl
  set_passes [] (suc place) t e h = refl
  set_passes (x ∷ m) zero t e h = ap (λ b. b && row_passes m) e ∙ and_right (value_passes x) _ h
  set_passes (x ∷ m) (suc place) t e h =
      ap (λ b. b && row_passes (slice_set m place (Some t))) (and_left (value_passes x) _ h) ∙ set_passes m place t e (and_right (value_passes x) _ h)

  set_in_passes : (m : Mapping) (o : Option ℕ) (t : Term) → p t ≡ true → row_passes m ≡ true → row_passes (set_in m o t) ≡ true
  set_in_passes m (Some place) t e h = set_passes m place t e h
  set_in_passes m None t e h = h

  single_passes : (variables : Variables) (name : List ℕ) (t : Term) → p t ≡ true → row_passes (single variables name t) ≡ true
  single_passes variables name t e = set_in_passes (empty_mapping variables) (column variables name) t e (empty_passes (length variables))

  take_passes : (n : ℕ) (m : Mapping) → row_passes m ≡ true → row_passes (take n m) ≡ true
  take_passes zero m h = refl
  take_passes (suc n) [] h = refl
  take_passes (suc n) (x ∷ m) h =
      ap (λ b. b && row_passes (take n m)) (and_left (value_passes x) _ h) ∙ take_passes n m (and_right (value_passes x) _ h)

  value_at_passes : (m : Mapping) (place : ℕ) → row_passes m ≡ true → value_passes (value_at m place) ≡ true
  value_at_passes [] zero h = refl
  value_at_passes [] (suc place) h = refl
  value_at_passes (x ∷ m) zero h = and_left (value_passes x) _ h
  value_at_passes (x ∷ m) (suc place) h = value_at_passes m place (and_right (value_passes x) _ h)

  value_in_passes : (m : Mapping) (o : Option ℕ) → row_passes m ≡ true → value_passes (value_in m o) ≡ true
  value_in_passes m (Some place) h = value_at_passes m place h
  value_in_passes m None h = refl

  projected_passes : (variables columns : Variables) (m : Mapping) → row_passes m ≡ true → row_passes (projected variables columns m) ≡ true
  projected_passes variables [] m h = refl
  projected_passes variables (name ∷ columns) m h =
      ap (λ b. b && row_passes (projected variables columns m)) (value_in_passes m (column variables name) h) ∙ projected_passes variables columns m h

  -- basic graph patterns

  mappings_pass : (n : ℕ) (T : List Term) → list_all p T ≡ true → list_all row_passes (all_mappings n T) ≡ true
  mappings_pass zero T h = refl
  mappings_pass (suc n) T h =
      all_flat_map row_passes row_passes (longer T)
      (λ m k. ap (λ b. b && list_all row_passes (map (λ t. Some t ∷ m) T)) k
      ∙ all_map p row_passes (λ t. Some t ∷ m) (λ t e. ap (λ b. b && row_passes m) e ∙ k) T h) (all_mappings n T) (mappings_pass n T h)

  distinct_pass : (ts : List Term) → list_all p ts ≡ true → list_all p (distinct ts) ≡ true
  distinct_pass [] h = refl
  distinct_pass (t ∷ ts) h = by_test (list_any (same_term t) ts) (distinct_pass ts (and_right (p t) _ h))
    where
      by_test : (b : Bool) → list_all p (distinct ts) ≡ true → list_all p (cond b (distinct ts) (t ∷ distinct ts)) ≡ true
      by_test true r = r
      by_test false r = ap (λ b. b && list_all p (distinct ts)) (and_left (p t) _ h) ∙ r

  terms_pass : (quads : List QuadParts) → list_all quad_passes quads ≡ true → list_all p (terms_of quads) ≡ true
  terms_pass quads h =
      distinct_pass (all_terms quads)
      (all_flat_map quad_passes p (λ q. q.subject ∷ q.predicate ∷ q.object ∷ [])
      (λ q e. ap (λ b. p q.subject && (p q.predicate && b)) (and_true (p q.object)) ∙ e) quads h)

  -- joins

  merges_pass : (B : List Mapping) (a : Mapping) → list_all row_passes B ≡ true → row_passes a ≡ true → list_all row_passes (merges B a) ≡ true
  merges_pass B a h k =
      all_map row_passes row_passes (merge a) (λ b l. merge_passes a b k l) (filter (compatible a) B) (all_filter row_passes (compatible a) B h)

  joins_pass : (A B : List Mapping) → list_all row_passes A ≡ true → list_all row_passes B ≡ true → list_all row_passes (joins A B) ≡ true
  joins_pass A B h k = all_flat_map row_passes row_passes (merges B) (λ a l. merges_pass B a k l) A h

  or_alone_passes : (a : Mapping) (ms : List Mapping) → row_passes a ≡ true → list_all row_passes ms ≡ true → list_all row_passes (or_alone a ms) ≡ true
  or_alone_passes a [] h k = ap (λ b. b && true) h
  or_alone_passes a (m ∷ ms) h k = k

  left_joins_pass : (A B : List Mapping) (F : Mapping → Bool) → list_all row_passes A ≡ true → list_all row_passes B ≡ true →
      list_all row_passes (left_joins A B F) ≡ true
  left_joins_pass A B F h k =
      all_flat_map row_passes row_passes (λ a. or_alone a (filter F (merges B a)))
      (λ a l. or_alone_passes a (filter F (merges B a)) l (all_filter row_passes F (merges B a) (merges_pass B a k l))) A h

  -- patterns

  module _ (variables : Variables) (d : Listing) (names : list_all p d.names ≡ true) (quads : (g : GraphName) → list_all quad_passes (d.quads g) ≡ true) where
    solutions_pass : (g : GraphName) (P : Algebra) → list_all row_passes (solutions variables d g P) ≡ true
    solutions_pass g (basic b) =
        all_map row_passes row_passes (take (length variables)) (λ w h. take_passes (length variables) w h) (assignments variables (d.quads g) b)
        (all_filter row_passes (solves variables (d.quads g) b.triples) (all_mappings (length variables + b.hidden) (terms_of (d.quads g)))
        (mappings_pass (length variables + b.hidden) (terms_of (d.quads g)) (terms_pass (d.quads g) (quads g))))
    solutions_pass g (join A B) = joins_pass (solutions variables d g A) (solutions variables d g B) (solutions_pass g A) (solutions_pass g B)
    solutions_pass g (left_join F A B) =
        left_joins_pass (solutions variables d g A) (solutions variables d g B) (satisfies variables F) (solutions_pass g A) (solutions_pass g B)
    solutions_pass g (algebra.filter F A) = all_filter row_passes (satisfies variables F) (solutions variables d g A) (solutions_pass g A)
    solutions_pass g (union A B) = all_append row_passes (solutions variables d g A) (solutions variables d g B) (solutions_pass g A) (solutions_pass g B)
    solutions_pass g (minus A B) = all_filter row_passes (left_by shares (solutions variables d g B)) (solutions variables d g A) (solutions_pass g A)
    solutions_pass g (graph (v.Iri iri) A) =
        all_cond row_passes (list_any (same_term (t.Iri iri)) d.names) (solutions variables d (Named (t.Iri iri)) A) (solutions_pass (Named (t.Iri iri)) A)
    solutions_pass g (graph (v.Variable name) A) =
        all_flat_map p row_passes (λ n. joins (solutions variables d (Named n) A) (single variables name n ∷ []))
        (λ n e. joins_pass (solutions variables d (Named n) A) (single variables name n ∷ []) (solutions_pass (Named n) A)
        (ap (λ b. b && true) (single_passes variables name n e))) d.names names

-- ---- the terms of a state pass

any_at : (f : QuadParts → Bool) (q : QuadParts) → f q ≡ true → (xs : List QuadParts) → list_any (eq_by_cmp quad_cmp q) xs ≡ true → list_any f xs ≡ true
any_at f q h [] e = cc
any_at f q h (x ∷ xs) e =
    or_cases (eq_by_cmp quad_cmp q x) (list_any (eq_by_cmp quad_cmp q) xs) e (λ a. or_left (f x) _ (ap f (sym (same_quad_is q x a)) ∙ h))
    (λ a. or_right (f x) _ (any_at f q h xs a))

module _ (s : State) where
  name_of_state : (t : Term) → list_any (same_term t) (listing_of s).names ≡ true → is_term_of s t ≡ true
  name_of_state t e =
      or_right (list_any (stands_in t) (items s.quads)) (contains s.names t)
      (sym (sets.listed_has term_cmp_total term_cmp-IsAntisymmetric s.names (listing_of s).names (there_is_a_listing s).names t) ∙ e)

  in_quad : (q : QuadParts) (t : Term) → contains s.quads q ≡ true → stands_in t q ≡ true → is_term_of s t ≡ true
  in_quad q t h e =
      or_left (list_any (stands_in t) (items s.quads)) (contains s.names t) (any_at (stands_in t) q e (items s.quads) (sym (contains-items s.quads q) ∙ h))

  quad_of_state : (g : GraphName) (q : QuadParts) → list_any (eq_by_cmp quad_cmp q) ((listing_of s).quads g) ≡ true → quad_passes (is_term_of s) q ≡ true
  quad_of_state g q e =
      let there : contains (graph_quads s g) q ≡ true =
      sym (sets.listed_has quad_cmp_total quad_cmp-IsAntisymmetric (graph_quads s g) ((listing_of s).quads g) ((there_is_a_listing s).quads g) q) ∙ e in
      let held : contains s.quads q ≡ true = and_left (contains s.quads q) _ (sym (in_graph s g q) ∙ there) in
      let subject : is_term_of s q.subject ≡ true = in_quad q q.subject held (or_left (same_term q.subject q.subject) _ (same_term_own q.subject)) in
      let predicate : is_term_of s q.predicate ≡ true =
      in_quad q q.predicate held (or_right (same_term q.predicate q.subject) _ (or_left (same_term q.predicate q.predicate) _ (same_term_own q.predicate))) in
      let object : is_term_of s q.object ≡ true =
      in_quad q q.object held (or_right (same_term q.object q.subject) _ (or_right (same_term q.object q.predicate) _ (same_term_own q.object))) in
      ap (λ b. b && (is_term_of s q.predicate && is_term_of s q.object)) subject ∙ ap (λ b. b && is_term_of s q.object) predicate ∙ object

  sorted_pass : (P : Pattern) (g : GraphName) → list_all (row_passes (is_term_of s)) (sorted_solutions P g s) ≡ true
  unfolding sorted_solutions
  sorted_pass P g =
      all_sort (row_passes (is_term_of s)) (pattern_solutions P g (listing_of s))
      (all_map (row_passes (is_term_of s)) (row_passes (is_term_of s)) (projected (named P) (visible P))
      (λ m h. projected_passes (is_term_of s) (named P) (visible P) m h) (solutions (named P) (listing_of s) g (translation P))
      (solutions_pass (is_term_of s) (named P) (listing_of s)
      (sets.all_on term_cmp_total term_cmp-IsAntisymmetric (is_term_of s) (listing_of s).names name_of_state)
      (λ h. sets.all_on quad_cmp_total quad_cmp-IsAntisymmetric (quad_passes (is_term_of s)) ((listing_of s).quads h) (quad_of_state h)) g (translation P)))

-- ---- what passes the test is as the value is to be

module _ (p : Term → Bool) (V : Term → Type 0) (each : (t : Term) → p t ≡ true → V t) where
  value_is : (x : Option Term) → value_passes p x ≡ true → IfSome x V
  value_is (Some t) h = each t h
  value_is None h = tt

  row_is : (m : Mapping) → row_passes p m ≡ true → AllByRecursion (λ x. IfSome x V) m
  row_is [] h = tt
  row_is (x ∷ m) h = (value_is x (and_left (value_passes p x) _ h), row_is m (and_right (value_passes p x) _ h))

  rows_are : (ms : List Mapping) → list_all (row_passes p) ms ≡ true → AllValues (λ x. IfSome x V) ms
  rows_are [] h = tt
  rows_are (m ∷ ms) h = (row_is m (and_left (row_passes p m) _ h), rows_are ms (and_right (row_passes p m) _ h))

pub solutions_of_state : SolutionsOfState
solutions_of_state P g s = rows_are (is_term_of s) (λ t. IsTrue (is_term_of s t)) (λ t e. e) (sorted_solutions P g s) (sorted_pass s P g)

-- ---- in a sound state

any_found : {G : Type 0} (f : QuadParts → Bool) (xs : List QuadParts) → list_any f xs ≡ true →
    ((x : QuadParts) → list_any (eq_by_cmp quad_cmp x) xs ≡ true → f x ≡ true → G) → G
any_found f [] e k = cc
any_found f (x ∷ xs) e k =
    or_cases (f x) (list_any f xs) e (λ a. k x (or_left (eq_by_cmp quad_cmp x x) _ (sets.own quad_cmp_total quad_cmp-IsAntisymmetric x)) a)
    (λ a. any_found f xs a (λ y h b. k y (or_right (eq_by_cmp quad_cmp y x) _ h) b))

-- what holds of the terms of each quad, and of each name, holds of each term of the state
term_is : (s : State) (V : Term → Type 0) → ((q : QuadParts) → contains s.quads q ≡ true → V q.subject × (V q.predicate × V q.object)) →
    ((n : Term) → contains s.names n ≡ true → V n) → (t : Term) → is_term_of s t ≡ true → V t
term_is s V quads names t e =
    or_cases (list_any (stands_in t) (items s.quads)) (contains s.names t) e
    (λ a. any_found (stands_in t) (items s.quads) a (λ q h b.
    let parts : V q.subject × (V q.predicate × V q.object) = quads q (contains-items s.quads q ∙ h) in
    or_cases (same_term t q.subject) _ b (λ i. back q.subject i parts.0)
    (λ c. or_cases (same_term t q.predicate) (same_term t q.object) c (λ i. back q.predicate i parts.1.0) (λ i. back q.object i parts.1.1))))
    (names t)
  where
    back : (u : Term) → same_term t u ≡ true → V u → V t
    back u i x = subst V (sym (same_term_is t u i)) x

pub solutions_of_terms : SolutionsOfTerms
solutions_of_terms P g s h =
    rows_are (is_term_of s) (λ t. IsTrue (is_term t))
    (term_is s (λ t. IsTrue (is_term t)) (λ q e. parts q (h.right_quads q e)) (λ n e. and_left (is_term n) _ (h.right_names n e))) (sorted_solutions P g s)
    (sorted_pass s P g)
  where
    parts : (q : QuadParts) → is_quad q ≡ true → IsTrue (is_term q.subject) × (IsTrue (is_term q.predicate) × IsTrue (is_term q.object))
    parts q e =
        let terms : (is_term q.subject && (is_term q.predicate && is_term q.object)) ≡ true =
        and_right (is_graph q.graph) _ (and_right (has_right_kinds q) _ e) in
        let others : (is_term q.predicate && is_term q.object) ≡ true = and_right (is_term q.subject) _ terms in
        (and_left (is_term q.subject) _ terms, (and_left (is_term q.predicate) _ others, and_right (is_term q.predicate) _ others))

pub solutions_below : SolutionsBelow
solutions_below P g s h =
    rows_are (is_term_of s) (IsTermBelow s.next)
    (term_is s (IsTermBelow s.next)
    (λ q e. ((h.quads_below q e).subject, ((h.quads_below q e).predicate, (h.quads_below q e).object))) h.names_below) (sorted_solutions P g s)
    (sorted_pass s P g)

-- ---- the value at a place

pub at_place : (V : Term → Type 0) (m : Mapping) (place : ℕ) → AllByRecursion (λ x. IfSome x V) m → IfSome (value_at m place) V
at_place V [] zero h = tt
at_place V [] (suc place) h = tt
at_place V (x ∷ m) zero h = h.0
at_place V (x ∷ m) (suc place) h = at_place V m place h.1

pub of_variable : (V : Term → Type 0) (variables : Variables) (m : Mapping) (name : List ℕ) → AllByRecursion (λ x. IfSome x V) m →
    IfSome (value_of variables m name) V
of_variable V variables m name h = by_column (column variables name)
  where
    by_column : (o : Option ℕ) → IfSome (value_in m o) V
    by_column (Some place) = at_place V m place h
    by_column None = tt
