-- The steps of the evaluator against the solutions that are compatible with the row above.
use Rattle.std.proofs.Common.{◌≡◌, ℕ, zero, suc, ◌+◌, ◌<◌, ◌≤◌, Bool, true, false, cond, ◌&&◌, ◌||◌, List, [], ◌∷◌, ◌++◌, map, filter, Option, Some, None, IfSome, refl, sym, ap, ◌∙◌, subst, length, take, drop, replicate, get_or, arith, nat_eq, append-nil}
use Rattle.std.specs.List.{flat_map, sum_by, count_by, list_any, list_all}
use Rattle.std.specs.List.Sorted.{IsPermutation}
use Rattle.std.proofs.lemmas.Bool.{eqb-true, eq-eqb}
use Rattle.std.proofs.lemmas.Grind.{flat_map-append}
use Rattle.std.proofs.lemmas.List.{take_more, take_all, take-append-drop, take-take, drop-take, length-replicate}
use Rattle.std.proofs.lemmas.List.Folds.{list_all-append}
use Rattle.std.proofs.lemmas.List.Sorted.{sum_by-IsPermutation}
use Rattle.std.proofs.lemmas.List.Sums.{sum_by-append}
use Rattle.rdf_terms.specs.declared.term.Term.{Term}
use Rattle.rdf_terms.specs.declared.quad.GraphName.{GraphName}
use Rattle.rdf_terms.specs.declared.quad.GraphName.TheVariants.{Named}
use Rattle.rdf_dataset.specs.State.{State}
use Rattle.rdf_dataset.specs.Sorted.{ListsOnce}
use Rattle.sparql_trees.specs.declared.expression.Expression.{Expression}
use Rattle.sparql_trees.specs.declared.pattern.BasicGraphPattern.{BasicGraphPattern}
use Rattle.sparql_trees.specs.declared.pattern.Member.{Member}
use Rattle.sparql_trees.specs.declared.pattern.Member.TheVariants as m
use Rattle.sparql_trees.specs.declared.pattern.Pattern.{Pattern}
use Rattle.sparql_trees.specs.declared.pattern.TriplePattern.{TriplePattern}
use Rattle.sparql_trees.specs.declared.pattern.VarOrIri.{VarOrIri}
use Rattle.sparql_trees.specs.declared.pattern.VarOrIri.TheVariants as v
use Rattle.sparql_trees.specs.declared.pattern.VarOrTerm.{VarOrTerm}
use Rattle.sparql_trees.specs.declared.pattern.VarOrTerm.TheVariants as slot
use Rattle.sparql_values.specs.Mapping.{Variables, Mapping, same_term, column, value_in, value_of, empty_mapping, single, compatible, merge}
use Rattle.sparql_algebra.specs.Algebra.{Algebra, basic, graph, Element, joined, optional, removed, empty_pattern, filtered, extended, element, group_of, translation, union_of}
use Rattle.sparql_algebra.specs.Bags.{SameBag}
use Rattle.sparql_algebra.specs.Listing.{Listing, Lists}
use Rattle.sparql_algebra.specs.Results.{is_some_solution}
use Rattle.sparql_algebra.specs.Solutions.{is_at, is_column, occurs, var_or_term, basic_solutions, merges, joins, shares, left_by, satisfies, solutions}
use Rattle.sparql_algebra.specs.Under.{agreeing, cut, names_left, reads, under}
use Rattle.sparql_algebra.proofs.CallerLemmas.{and_left, and_right, sum_by-cong, sum_by-filter, SameBag-refl, SameBag-filter, SameBag-map, SameBag-joins, SameBag-flat_map, SameBag-merges, has_length, single_length, length_from, length_to, merge_length, merges_length, solutions_length, sum_where, sum_by-map, all_under_nothing, all_filter, basic_under, same_term_is, name_once, filter_always, translation-is, element-Basic, element-Union, element-Optional, element-Graph, element-Minus, empty_solutions, compatible_empty, compatible_turn, filter_flat_map, filter_again, filter_turn, join_alone, joined_alone, left_joined_alone, minus_alone, filter_under, names_kept, variable_under}
use Rattle.sparql_solve.specs.declared.look_ups.Graphs.{Graphs}
use Rattle.sparql_solve.specs.declared.look_ups.Graphs.TheVariants.{One}
use Rattle.sparql_solve.specs.declared.look_ups.LookUp.{LookUp}
use Rattle.sparql_solve.specs.declared.place.Places.{Places}
use Rattle.sparql_solve.specs.declared.sides.Made.{Made}
use Rattle.sparql_solve.specs.Matching.{has_column, is_place_at, place_by, place_of, places_of}
use Rattle.sparql_solve.specs.Sides.{look_up_in, tried, found}
use Rattle.sparql_solve.specs.Members.{AreSolutions, element_solutions}
use Rattle.sparql_solve.specs.Under.{binds_none, is_unit, is_served, below, masked, flags_where, is_joined, is_removed, is_wide, met, where_none, kept, asked, made, under_name, AreUnder, AreMade, AreEnough, IsLookUpOf, IsLookUpFor, counting, own_columns}
use Rattle.sparql_solve.proofs.SideLemmas.{same_all, all_give, times_once, sum_times, basic_look_up}
use Rattle.sparql_solve.proofs.MemberLemmas.{extended_push, union_is, once_for_all}
use Rattle.sparql_solve.proofs.MinusLemmas.{all_left}
use Rattle.sparql_solve.proofs.SharedLemmas.{bound_above, merges_again, replicate_none, below_none, merges_none, below_masked, length_masked, masked_cut, shared, SameBag-met, SameBag-kept}

-- ---- lengths

pub wide_from : (vs : Variables) (x : Mapping) → is_wide vs x ≡ true → length x ≡ length vs
wide_from vs x h = eqb-true (length x) (length vs) h

wide_to : (vs : Variables) (x : Mapping) → length x ≡ length vs → is_wide vs x ≡ true
wide_to vs x e = eq-eqb (length x) (length vs) e

all_wide : (vs : Variables) (xs : List Mapping) → list_all (has_length (length vs)) xs ≡ true → list_all (is_wide vs) xs ≡ true
all_wide vs [] h = refl
all_wide vs (x ∷ xs) h =
    ap (λ b. b && list_all (is_wide vs) xs) (wide_to vs x (length_from (length vs) x (and_left (has_length (length vs) x) _ h)))
    ∙ all_wide vs xs (and_right (has_length (length vs) x) _ h)

pub merged_wide : (vs : Variables) (a x : Mapping) → length a ≡ length vs → length x ≡ length vs → length (merge a x) ≡ length vs
merged_wide vs a x ea ex =
    length_from (length vs) (merge a x) (merge_length (length vs) a x (length_to (length vs) a ea) (length_to (length vs) x ex))

asked_wide : (vs : Variables) (k : Element) (a x : Mapping) → length a ≡ length vs → length x ≡ length vs → length (asked k a x) ≡ length vs
asked_wide vs (joined A) a x ea ex = merged_wide vs a x ea ex
asked_wide vs (optional F A) a x ea ex = ex
asked_wide vs (removed A) a x ea ex = ex

-- ---- the names tried

pub tried_left : (s : State) (names : List Term) → ListsOnce s.names names → (x : Option Term) → SameBag (tried names x) (names_left names x)
tried_left s names h None f = ap (sum_by f) (sym (filter_always names))
tried_left s names h (Some n) f =
    by_test (list_any (same_term n) names)
    ∙ sym (times_once (count_by (same_term n) names) (f n) (list_any (same_term n) names) (name_once s names h n))
    ∙ sym (sum_times (same_term n) (f n) names)
    ∙ sum_by-cong (λ u. cond (same_term n u) (f n) 0) (λ u. cond (same_term n u) (f u) 0) names (λ u. at_name u (same_term n u) refl)
    ∙ sym (sum_by-filter f (same_term n) names)
  where
    at_name : (u : Term) (b : Bool) → same_term n u ≡ b → cond b (f n) 0 ≡ cond b (f u) 0
    at_name u true e = ap f (same_term_is n u e)
    at_name u false e = refl

    by_test : (b : Bool) → sum_by f (cond b (n ∷ []) []) ≡ cond b (f n) 0
    by_test true = omega arith
    by_test false = refl

pub names_follow : (vs : Variables) (s : State) (a : Mapping) (name : List ℕ) (c : Option ℕ) (value : Option Term) (names : List Term) →
    c ≡ column vs name → value ≡ value_in a c → ((d : Listing) → Lists s d → SameBag names (tried d.names value)) →
    (d : Listing) → Lists s d → SameBag names (names_left d.names (value_of vs a name))
names_follow vs s a name c value names ec ev h d l f =
    h d l f ∙ tried_left s d.names l.names value f ∙ ap (λ (x : Option Term). sum_by f (names_left d.names x)) (ev ∙ ap (value_in a) ec)

-- ---- the columns of triple patterns

place_column : (vs : Variables) (at : ℕ) (x : VarOrTerm) → is_place_at at (place_of vs x) ≡ is_column vs at x
place_column vs at (slot.Variable name) = by_column (column vs name)
  where
    by_column : (c : Option ℕ) → is_place_at at (place_by c) ≡ is_at at c
    by_column (Some c) = refl
    by_column None = refl
place_column vs at (slot.Hidden number) = refl
place_column vs at (slot.Term t) = refl

places_occur : (vs : Variables) (at : ℕ) (ts : List TriplePattern) → list_any (has_column at) (map (places_of vs) ts) ≡ occurs vs ts at
places_occur vs at [] = refl
places_occur vs at (t ∷ ts) =
    let rest : Bool = list_any (has_column at) (map (places_of vs) ts) in
    ap (λ b. (b || (is_place_at at (place_of vs (var_or_term t.predicate)) || is_place_at at (place_of vs t.object))) || rest) (place_column vs at t.subject)
    ∙ ap (λ b. (is_column vs at t.subject || (b || is_place_at at (place_of vs t.object))) || rest) (place_column vs at (var_or_term t.predicate))
    ∙ ap (λ b. (is_column vs at t.subject || (is_column vs at (var_or_term t.predicate) || b)) || rest) (place_column vs at t.object)
    ∙ ap (λ b. (is_column vs at t.subject || (is_column vs at (var_or_term t.predicate) || is_column vs at t.object)) || b) (places_occur vs at ts)

-- ---- flags

flags_same : (p q : ℕ → Bool) → ((c : ℕ) → p c ≡ q c) → (n : ℕ) → flags_where p n ≡ flags_where q n
flags_same p q e zero = refl
flags_same p q e (suc n) =
    ap (λ b. b ∷ flags_where (λ c. p (suc c)) n) (e zero) ∙ ap (λ (l : List Bool). q zero ∷ l) (flags_same (λ c. p (suc c)) (λ c. q (suc c)) (λ c. e (suc c)) n)

flags_push : (test : ℕ → Bool) (n : ℕ) → flags_where test n ++ test n ∷ [] ≡ flags_where test (suc n)
flags_push test zero = refl
flags_push test (suc n) = ap (λ (l : List Bool). test zero ∷ l) (flags_push (λ c. test (suc c)) n)

pub more_flags : (test : ℕ → Bool) (i : ℕ) (b : Bool) (before after : List Bool) → before ≡ flags_where test i → b ≡ test i →
    after ≡ before ++ b ∷ [] → after ≡ flags_where test (i + 1)
more_flags test i b before after h eb e =
    let next : suc i ≡ i + 1 = omega arith in
    e ∙ ap (λ (xs : List Bool). xs ++ b ∷ []) h ∙ ap (λ (c : Bool). flags_where test i ++ c ∷ []) eb ∙ flags_push test i ∙ ap (flags_where test) next

pub flags_long : (test : ℕ → Bool) (n : ℕ) → length (flags_where test n) ≡ n
flags_long test zero = refl
flags_long test (suc n) = ap suc (flags_long (λ c. test (suc c)) n)

pub flags_done : (test : ℕ → Bool) (i n : ℕ) (out : List Bool) → out ≡ flags_where test i → i ≤ n → n ≤ i → out ≡ flags_where test n
flags_done test i n out h le ge = let e : i ≡ n = omega (arith, le, ge) in h ∙ ap (flags_where test) e

module _ (vs : Variables) (s : State) where
  -- ---- all of it

  pub whole_follows : (g : GraphName) (P : Algebra) (nothing : Mapping) (out : List Mapping) → nothing ≡ replicate (length vs + 0) None →
      AreUnder vs s nothing out (λ d. solutions vs d g P) → AreSolutions s out (λ d. solutions vs d g P)
  whole_follows g P nothing out e h d l f =
      let more : length vs + 0 ≡ length vs = omega arith in
      let is : nothing ≡ empty_mapping vs = e ∙ ap (λ n. replicate n None) more in
      h (ap length is ∙ length-replicate {A = Option Term} (length vs) None) d l f
      ∙ ap (λ (w : Mapping). sum_by f (under vs d g P w)) is ∙ ap (sum_by f) (all_under_nothing vs d g P)

  -- ---- the empty pattern, and basic graph patterns

  pub unit_follows : (g : GraphName) (a : Mapping) (rows : List Mapping) → rows ≡ replicate (length vs) None ∷ [] → AreUnder vs s a rows (λ d. solutions vs d g empty_pattern)
  unit_follows g a rows e ea d l f =
      ap (sum_by f) e ∙ ap (λ b. sum_by f (cond b (empty_mapping vs ∷ []) [])) (sym (compatible_turn a (empty_mapping vs) ∙ compatible_empty (length vs) a))
      ∙ sym (SameBag-filter (compatible a) (basic_solutions vs (d.quads g) (record { triples = []; hidden = 0 })) (empty_mapping vs ∷ []) (empty_solutions vs (d.quads g)) f)

  -- the columns of a basic graph pattern
  pub own_are : (graphs : Graphs) (b : BasicGraphPattern) (patterns : List Places) (l : LookUp) (flags : List Bool) → l ≡ look_up_in vs graphs b → patterns ≡ l.places →
      flags ≡ flags_where (λ at. list_any (has_column at) patterns) (length vs) → flags ≡ flags_where (occurs vs b.triples) (length vs)
  own_are graphs b patterns l flags el et ec =
      ec ∙ ap (λ (ps : List Places). flags_where (λ at. list_any (has_column at) ps) (length vs)) (et ∙ (λ i. (el i).places))
      ∙ flags_same (λ at. list_any (has_column at) (map (places_of vs) b.triples)) (occurs vs b.triples) (λ at. places_occur vs at b.triples) (length vs)

  pub basic_follows : (g own : GraphName) (graphs : Graphs) (b : BasicGraphPattern) (patterns : List Places) (l : LookUp) (a : Mapping) (out : List Mapping) (flags used : List Bool) →
      graphs ≡ One own → own ≡ g → l ≡ look_up_in vs graphs b → patterns ≡ l.places →
      flags ≡ flags_where (λ at. list_any (has_column at) patterns) (length vs) → used ≡ flags → AreSolutions s out (λ d. map (masked used) (found vs d l a)) →
      AreUnder vs s a out (λ d. solutions vs d g (basic b))
  basic_follows g own graphs b patterns l a out flags used eg eo el et ec eu h ea d k f =
      let S : List Mapping = basic_solutions vs (d.quads g) b in
      let C : List Bool = flags_where (occurs vs b.triples) (length vs) in
      let is : used ≡ C = eu ∙ own_are graphs b patterns l flags el et ec in
      let bag : SameBag (found vs d l a) (merges S a) = λ h2.
      basic_look_up vs s g (m.Basic b) b graphs own l refl eg eo el d k a ea h2
      ∙ ap (λ (x : Element). sum_by h2 (merges (element_solutions vs d g x) a)) (element-Basic b) in
      let wide : list_all (has_length (length vs)) (merges S a) ≡ true =
      merges_length (length vs) S a (solutions_length vs d g (basic b)) (length_to (length vs) a ea) in
      h d k f ∙ ap (λ (us : List Bool). sum_by f (map (masked us) (found vs d l a))) is
      ∙ SameBag-map (masked C) (found vs d l a) (merges S a) bag f
      ∙ sum_by-map f (masked C) (merges S a)
      ∙ sum_where (has_length (length vs)) (λ r. f (masked C r)) (λ r. f (cut (occurs vs b.triples) r))
      (λ r w. ap f (masked_cut (occurs vs b.triples) (length vs) r (length_from (length vs) r w))) (merges S a) wide
      ∙ sym (sum_by-map f (cut (occurs vs b.triples)) (merges S a))
      ∙ ap (sum_by f) (sym (basic_under vs d g b a ea))

  -- ---- a group

  pub group_follows : (g : GraphName) (a : Mapping) (p : Pattern) (ms : List Member) (F : List Expression) (rows out : List Mapping) → ms ≡ p.members → F ≡ p.filters →
      AreUnder vs s a rows (λ d. solutions vs d g (group_of (map element ms))) → out ≡ filter (satisfies vs F) rows →
      AreUnder vs s a out (λ d. solutions vs d g (translation p))
  group_follows g a p ms F rows out em ef h e ea d l f =
      let G : Algebra = group_of (map element p.members) in
      let inner : SameBag rows (under vs d g G a) = subst (λ (xs : List Member). SameBag rows (under vs d g (group_of (map element xs)) a)) em (h ea d l) in
      ap (sum_by f) (e ∙ ap (λ (E : List Expression). filter (satisfies vs E) rows) ef)
      ∙ asked_of p.filters G inner
      ∙ ap (λ A. sum_by f (under vs d g A a)) (sym (translation-is p))
    where
      asked_of : (E : List Expression) (A : Algebra) → SameBag rows (under vs d g A a) → sum_by f (filter (satisfies vs E) rows) ≡ sum_by f (under vs d g (filtered E A) a)
      asked_of [] A r = ap (sum_by f) (filter_always rows) ∙ r f
      asked_of (x ∷ E) A r = SameBag-filter (satisfies vs (x ∷ E)) rows (under vs d g A a) r f ∙ ap (sum_by f) (sym (filter_under vs d g (x ∷ E) A a))

  -- what an element makes of all rows
  pub extended_made : (d : Listing) (g : GraphName) (G : Algebra) (a : Mapping) (k : Element) → length a ≡ length vs →
      flat_map (made vs d g a k) (under vs d g G a) ≡ under vs d g (extended G k) a
  extended_made d g G a (joined A) ea =
      sym (filter_flat_map (compatible a) (merges (solutions vs d g A)) (under vs d g G a)) ∙ sym (joined_alone vs d g G A a ea)
  extended_made d g G a (optional F A) ea =
      sym (filter_flat_map (compatible a) (λ x. kept vs (optional F A) x (merges (solutions vs d g A) x)) (under vs d g G a)) ∙ sym (left_joined_alone vs d g F G A a ea)
  extended_made d g G a (removed A) ea =
      let S : List Mapping = solutions vs d g A in
      let rows : List Mapping = under vs d g G a in
      sym (filter_flat_map (compatible a) (λ x. where_none x (merges (filter (shares x) S) x)) rows)
      ∙ ap (filter (compatible a)) (all_left S rows)
      ∙ filter_turn (left_by shares S) (compatible a) rows
      ∙ ap (filter (left_by shares S)) (filter_again (compatible a) (solutions vs d g G))
      ∙ sym (minus_alone vs d g G A a)

  pub under_wide : (d : Listing) (g : GraphName) (G : Algebra) (a : Mapping) → list_all (is_wide vs) (under vs d g G a) ≡ true
  under_wide d g G a =
      all_wide vs (under vs d g G a) (all_filter (has_length (length vs)) (compatible a) (solutions vs d g G) (solutions_length vs d g G))

  pub members_follow : (g : GraphName) (a : Mapping) (ms : List Member) (i : ℕ) (x : Member) (rows out : List Mapping) → i < length ms → x ≡ get_or ms i x →
      AreUnder vs s a rows (λ d. solutions vs d g (group_of (map element (take i ms)))) → AreMade vs s g a (element x) rows out →
      AreUnder vs s a out (λ d. solutions vs d g (group_of (map element (take (i + 1) ms))))
  members_follow g a ms i x rows out lt here h r ea d l f =
      let more : take (i + 1) ms ≡ take i ms ++ x ∷ [] = take_more ms i x lt ∙ ap (λ (y : Member). take i ms ++ y ∷ []) (sym here) in
      let G : Algebra = group_of (map element (take i ms)) in
      let wide : list_all (is_wide vs) rows ≡ true = same_all (is_wide vs) rows (under vs d g G a) (h ea d l) (under_wide d g G a) in
      r ea wide d l f
      ∙ SameBag-flat_map (made vs d g a (element x)) (made vs d g a (element x)) rows (under vs d g G a) (h ea d l) (λ y. SameBag-refl (made vs d g a (element x) y)) f
      ∙ ap (sum_by f) (extended_made d g G a (element x) ea)
      ∙ ap (λ A. sum_by f (under vs d g A a)) (sym (extended_push vs s g empty_pattern (take i ms) x))
      ∙ ap (λ (ps : List Member). sum_by f (under vs d g (group_of (map element ps)) a)) (sym more)

  -- ---- what a member makes of rows

  pub made_nothing : (g : GraphName) (a : Mapping) (k : Element) (out : List Mapping) → out ≡ [] → AreMade vs s g a k [] out
  made_nothing g a k out e ea w d l f = ap (sum_by f) e

  pub made_append : (g : GraphName) (a : Mapping) (k : Element) (xs ys whole before more out : List Mapping) → whole ≡ xs ++ ys → out ≡ before ++ more →
      AreMade vs s g a k xs before → AreMade vs s g a k ys more → AreMade vs s g a k whole out
  made_append g a k xs ys whole before more out ew eo h r ea w d l f =
      let both : (list_all (is_wide vs) xs && list_all (is_wide vs) ys) ≡ true =
      sym (list_all-append (is_wide vs) xs ys) ∙ ap (list_all (is_wide vs)) (sym ew) ∙ w in
      let e1 : sum_by f out ≡ sum_by f before + sum_by f more = ap (sum_by f) eo ∙ sum_by-append f before more in
      let e2 : sum_by f before ≡ sum_by f (flat_map (made vs d g a k) xs) = h ea (and_left (list_all (is_wide vs) xs) _ both) d l f in
      let e3 : sum_by f more ≡ sum_by f (flat_map (made vs d g a k) ys) = r ea (and_right (list_all (is_wide vs) xs) _ both) d l f in
      let e4 : sum_by f (flat_map (made vs d g a k) whole) ≡ sum_by f (flat_map (made vs d g a k) xs) + sum_by f (flat_map (made vs d g a k) ys) =
      ap (λ (zs : List Mapping). sum_by f (flat_map (made vs d g a k) zs)) ew ∙ ap (sum_by f) (flat_map-append (made vs d g a k) xs ys)
      ∙ sum_by-append f (flat_map (made vs d g a k) xs) (flat_map (made vs d g a k) ys) in
      omega (arith, e1, e2, e3, e4)

  -- the rows at the front of those that are left
  pub made_more : (g : GraphName) (a : Mapping) (k : Element) (rows block : List Mapping) (i n : ℕ) (before more out : List Mapping) → block ≡ take n (drop i rows) → out ≡ before ++ more →
      AreMade vs s g a k (take i rows) before → AreMade vs s g a k block more → AreMade vs s g a k (take (i + n) rows) out
  made_more g a k rows block i n before more out eb eo h r =
      made_append g a k (take i rows) block (take (i + n) rows) before more out
      (sym (take-append-drop i (take (i + n) rows)) ∙ ap (λ (xs : List Mapping). xs ++ drop i (take (i + n) rows)) (take-take i (i + n) rows (omega arith))
      ∙ ap (λ (xs : List Mapping). take i rows ++ xs) (drop-take i n rows ∙ sym eb)) eo h r

  pub made_all : (g : GraphName) (a : Mapping) (k : Element) (rows : List Mapping) (i : ℕ) (out : List Mapping) → length rows ≤ i →
      AreMade vs s g a k (take i rows) out → AreMade vs s g a k rows out
  made_all g a k rows i out le h = subst (λ (xs : List Mapping). AreMade vs s g a k xs out) (take_all i rows le) h

  all_both : (p q : Mapping → Bool) (xs : List Mapping) → list_all p xs ≡ true → list_all q xs ≡ true → list_all (λ x. p x && q x) xs ≡ true
  all_both p q [] h k = refl
  all_both p q (x ∷ xs) h k =
      ap (λ b. (b && q x) && list_all (λ y. p y && q y) xs) (and_left (p x) _ h) ∙ ap (λ b. b && list_all (λ y. p y && q y) xs) (and_left (q x) _ k)
      ∙ all_both p q xs (and_right (p x) _ h) (and_right (q x) _ k)

  -- the first of some rows, and what is behind it
  first_apart : (rest block : List Mapping) (n : ℕ) (x : Mapping) → block ≡ take n rest → 0 < n → 0 < length rest → x ≡ get_or rest 0 x → block ≡ x ∷ drop 1 block
  first_apart [] block n x eb l m e = absurd (omega (arith, m))
  first_apart (y ∷ rest) block n x eb l m e = eb ∙ by_number n l ∙ ap (λ (z : Mapping). z ∷ drop 1 (take n (y ∷ rest))) (sym e) ∙ ap (λ (zs : List Mapping). x ∷ drop 1 zs) (sym eb)
    where
      by_number : (n : ℕ) → 0 < n → take n (y ∷ rest) ≡ y ∷ drop 1 (take n (y ∷ rest))
      by_number zero l = absurd (omega (arith, l))
      by_number (suc n) l = refl

  -- with what was found for the columns of the first row that these are
  pub made_served : (g : GraphName) (a : Mapping) (k : Element) (flags : List Bool) (key x : Mapping) (rest block found given out : List Mapping) (n : ℕ) →
      length flags ≡ length vs → key ≡ masked flags x → block ≡ take n rest → 0 < n → 0 < length rest → x ≡ get_or rest 0 x →
      list_all (is_served key) (drop 1 block) ≡ true → AreUnder vs s (asked k a key) found (λ d. element_solutions vs d g k) → given ≡ found →
      SameBag out (flat_map (λ y. agreeing (kept vs k y (merges (met k y given) y)) a) block) → AreMade vs s g a k block out
  made_served g a k flags key x rest block found given out n ef ek eb l m here served h eg e ea w d p f =
      let cut : block ≡ x ∷ drop 1 block = first_apart rest block n x eb l m here in
      let wide : list_all (is_wide vs) (x ∷ drop 1 block) ≡ true = subst (λ (xs : List Mapping). list_all (is_wide vs) xs ≡ true) cut w in
      let ex : length x ≡ length vs = wide_from vs x (and_left (is_wide vs x) _ wide) in
      let el : length key ≡ length x = ap length ek ∙ length_masked flags x (ef ∙ sym ex) in
      let first : is_served key x ≡ true =
      ap (λ b. b && below key x) (eq-eqb (length key) (length x) el) ∙ ap (λ (y : Mapping). below y x) ek ∙ below_masked flags x in
      let all : list_all (is_served key) block ≡ true =
      ap (list_all (is_served key)) cut ∙ ap (λ b. b && list_all (is_served key) (drop 1 block)) first ∙ served in
      e f ∙ ap (λ (ys : List Mapping). sum_by f (flat_map (λ y. agreeing (kept vs k y (merges (met k y ys) y)) a) block)) eg
      ∙ all_give (λ y. is_wide vs y && is_served key y) (λ y. agreeing (kept vs k y (merges (met k y found) y)) a) (made vs d g a k) block
      (all_both (is_wide vs) (is_served key) block w all)
      (λ y q. shared vs a key y (eqb-true (length key) (length y) (and_left (nat_eq (length key) (length y)) _ (and_right (is_wide vs y) _ q)))
      (and_right (nat_eq (length key) (length y)) _ (and_right (is_wide vs y) _ q)) k found (element_solutions vs d g k)
      (h (asked_wide vs k a key ea (el ∙ ex)) d p)) f

  -- ---- look-ups

  pub look_up_counts : (k : Element) (l : LookUp) (F : Listing → List Mapping) → is_removed k ≡ false → IsLookUpOf vs s l F → IsLookUpFor vs s k l F
  look_up_counts (joined A) l F e h = h
  look_up_counts (optional E A) l F e h = h
  look_up_counts (removed A) l F e h = cc

  pub none_counts : (k : Element) (l : LookUp) (x : Mapping) (own : List Bool) (out : List Mapping) → own ≡ own_columns vs l → is_removed k ≡ true →
      binds_none (masked own x) ≡ true → out ≡ [] → AreSolutions s out (λ d. counting vs d l k x)
  none_counts (joined A) l x own out eo e n h = cc
  none_counts (optional F A) l x own out eo e n h = cc
  none_counts (removed A) l x own out eo e n h = λ d p f.
      ap (sum_by f) h ∙ ap (λ b. sum_by f (cond b [] (found vs d l x))) (sym (ap (λ (fs : List Bool). binds_none (masked fs x)) (sym eo) ∙ n))

  pub each_counts : (k : Element) (l : LookUp) (x : Mapping) (out : List Mapping) → is_removed k ≡ false → AreSolutions s out (λ d. found vs d l x) →
      AreSolutions s out (λ d. counting vs d l k x)
  each_counts (joined A) l x out e h = h
  each_counts (optional F A) l x out e h = h
  each_counts (removed A) l x out e h = cc

  pub bound_counts : (k : Element) (l : LookUp) (x : Mapping) (own : List Bool) (out : List Mapping) → own ≡ own_columns vs l → binds_none (masked own x) ≡ false →
      AreSolutions s out (λ d. found vs d l x) → AreSolutions s out (λ d. counting vs d l k x)
  bound_counts (joined A) l x own out eo n h = h
  bound_counts (optional F A) l x own out eo n h = h
  bound_counts (removed A) l x own out eo n h = λ d p f.
      h d p f ∙ ap (λ b. sum_by f (cond b [] (found vs d l x))) (sym (ap (λ (fs : List Bool). binds_none (masked fs x)) (sym eo) ∙ n))

  first_alone : (rows block : List Mapping) (x : Mapping) → block ≡ take 1 rows → 0 < length rows → x ≡ get_or rows 0 x → block ≡ x ∷ []
  first_alone [] block x eb lt e = absurd (omega (arith, lt))
  first_alone (y ∷ rows) block x eb lt e = eb ∙ ap (λ (z : Mapping). z ∷ []) (sym e)

  -- what is looked up for the first row
  pub made_alone : (g : GraphName) (a : Mapping) (k : Element) (x : Mapping) (rows block there out : List Mapping) (l : LookUp) → block ≡ take 1 rows → 0 < length rows →
      x ≡ get_or rows 0 x → IsLookUpFor vs s k l (λ d. element_solutions vs d g k) → AreEnough vs s k x there (λ d. counting vs d l k x) →
      out ≡ agreeing (kept vs k x there) a → AreMade vs s g a k block out
  made_alone g a k x rows block there out l eb lt here is h e =
      subst (λ (xs : List Mapping). AreMade vs s g a k xs out) (sym (first_alone rows block x eb lt here)) alone
    where
      alone : AreMade vs s g a k (x ∷ []) out
      alone ea w d p f =
          let M : List Mapping = merges (met k x (element_solutions vs d g k)) x in
          ap (sum_by f) e
          ∙ SameBag-filter (compatible a) (kept vs k x there) (kept vs k x M)
          (λ f2. h d p f2 ∙ SameBag-kept vs k x (counting vs d l k x) M (is d p x (wide_from vs x (and_left (is_wide vs x) _ w))) f2) f
          ∙ ap (sum_by f) (sym (append-nil (made vs d g a k x)))

  -- what is looked up for the columns of a row counts for each row above them, merged with it
  above_counts : (g : GraphName) (k : Element) (l : LookUp) (own : List Bool) (x key y : Mapping) (there : List Mapping) → own ≡ own_columns vs l → key ≡ masked own x →
      (is_removed k && binds_none (masked own x)) ≡ false → IsLookUpOf vs s l (λ d. element_solutions vs d g k) → IsLookUpFor vs s k l (λ d. element_solutions vs d g k) →
      length key ≡ length y → below key y ≡ true → length y ≡ length vs → AreSolutions s there (λ d. found vs d l key) → (d : Listing) → Lists s d →
      SameBag (merges there y) (merges (met k y (element_solutions vs d g k)) y)
  above_counts g k l own x key y there eo ek n gives counts ey h ew r d p f =
      let S : List Mapping = element_solutions vs d g k in
      SameBag-merges y there (found vs d l key) (r d p) f
      ∙ SameBag-merges y (found vs d l key) (merges S key) (gives d p key (ey ∙ ew)) f
      ∙ ap (sum_by f) (merges_again key y ey h S)
      ∙ sym (gives d p y ew f)
      ∙ ap (sum_by f) (sym (whole k n))
      ∙ counts d p y ew f
    where
      flagged : binds_none (masked own x) ≡ false → binds_none (masked (own_columns vs l) y) ≡ false
      flagged i =
          ap (λ (fs : List Bool). binds_none (masked fs y)) (sym eo)
          ∙ bound_above own x y (ap length (sym ek) ∙ ey) (ap (λ (w : Mapping). below w y) (sym ek) ∙ h) i

      whole : (j : Element) → (is_removed j && binds_none (masked own x)) ≡ false → counting vs d l j y ≡ found vs d l y
      whole (joined A) i = refl
      whole (optional F A) i = refl
      whole (removed A) i = ap (λ b. cond b [] (found vs d l y)) (flagged i)

  -- with what was looked up for them
  pub made_run : (g : GraphName) (a : Mapping) (k : Element) (l : LookUp) (own : List Bool) (key x : Mapping) (rows block there given out : List Mapping) (n : ℕ) →
      own ≡ own_columns vs l → key ≡ masked own x → (is_removed k && binds_none (masked own x)) ≡ false → IsLookUpOf vs s l (λ d. element_solutions vs d g k) →
      IsLookUpFor vs s k l (λ d. element_solutions vs d g k) → block ≡ take n rows → 0 < n → 0 < length rows → x ≡ get_or rows 0 x →
      list_all (is_served key) (drop 1 block) ≡ true → AreSolutions s there (λ d. found vs d l key) → given ≡ there →
      out ≡ flat_map (λ y. agreeing (kept vs k y (merges given y)) a) block → AreMade vs s g a k block out
  made_run g a k l own key x rows block there given out n eo ek en gives counts eb lt m here served h eg e ea w d p f =
      let cut : block ≡ x ∷ drop 1 block = first_apart rows block n x eb lt m here in
      let wide : list_all (is_wide vs) (x ∷ drop 1 block) ≡ true = subst (λ (xs : List Mapping). list_all (is_wide vs) xs ≡ true) cut w in
      let ex : length x ≡ length vs = wide_from vs x (and_left (is_wide vs x) _ wide) in
      let el : length key ≡ length x =
      ap length ek ∙ length_masked own x (ap length eo ∙ flags_long (λ at. list_any (has_column at) l.places) (length vs) ∙ sym ex) in
      let first : is_served key x ≡ true =
      ap (λ b. b && below key x) (eq-eqb (length key) (length x) el) ∙ ap (λ (y : Mapping). below y x) ek ∙ below_masked own x in
      let all : list_all (is_served key) block ≡ true =
      ap (list_all (is_served key)) cut ∙ ap (λ b. b && list_all (is_served key) (drop 1 block)) first ∙ served in
      ap (sum_by f) e ∙ ap (λ (ys : List Mapping). sum_by f (flat_map (λ y. agreeing (kept vs k y (merges ys y)) a) block)) eg
      ∙ all_give (λ y. is_wide vs y && is_served key y) (λ y. agreeing (kept vs k y (merges there y)) a) (made vs d g a k) block
      (all_both (is_wide vs) (is_served key) block w all)
      (λ y q. SameBag-filter (compatible a) (kept vs k y (merges there y)) (kept vs k y (merges (met k y (element_solutions vs d g k)) y))
      (SameBag-kept vs k y (merges there y) (merges (met k y (element_solutions vs d g k)) y)
      (above_counts g k l own x key y there eo ek en gives counts (eqb-true (length key) (length y) (and_left (nat_eq (length key) (length y)) _ (and_right (is_wide vs y) _ q)))
      (and_right (nat_eq (length key) (length y)) _ (and_right (is_wide vs y) _ q)) (wide_from vs y (and_left (is_wide vs y) _ q)) h d p))) f

  -- with what was found for all rows
  pub made_beside : (g : GraphName) (a : Mapping) (k : Element) (rows : List Mapping) (nothing under_it : Mapping) (found given out : List Mapping) →
      nothing ≡ replicate (length vs + 0) None → under_it ≡ asked k a nothing → AreUnder vs s under_it found (λ d. element_solutions vs d g k) → given ≡ found →
      SameBag out (flat_map (λ x. agreeing (kept vs k x (merges (met k x given) x)) a) rows) → AreMade vs s g a k rows out
  made_beside g a k rows nothing under_it found given out en eu h eg e ea w d l f =
      let more : length vs + 0 ≡ length vs = omega arith in
      let wide : length nothing ≡ length vs = ap length en ∙ length-replicate {A = Option Term} (length vs + 0) None ∙ more in
      let none : binds_none nothing ≡ true = ap binds_none en ∙ replicate_none (length vs + 0) in
      let bag : SameBag found (agreeing (element_solutions vs d g k) (asked k a nothing)) =
      subst (λ (u : Mapping). SameBag found (agreeing (element_solutions vs d g k) u)) eu (h (ap length eu ∙ asked_wide vs k a nothing ea wide) d l) in
      e f ∙ ap (λ (ys : List Mapping). sum_by f (flat_map (λ x. agreeing (kept vs k x (merges (met k x ys) x)) a) rows)) eg
      ∙ all_give (is_wide vs) (λ x. agreeing (kept vs k x (merges (met k x found) x)) a) (made vs d g a k) rows w
      (λ x wx. shared vs a nothing x (wide ∙ sym (wide_from vs x wx)) (below_none nothing x none) k found (element_solutions vs d g k) bag) f

  element_wide : (d : Listing) (g : GraphName) (k : Element) → list_all (has_length (length vs)) (element_solutions vs d g k) ≡ true
  element_wide d g (joined A) = solutions_length vs d g A
  element_wide d g (optional F A) = solutions_length vs d g A
  element_wide d g (removed A) = solutions_length vs d g A

  -- with what was looked up once for all rows
  pub made_once : (g : GraphName) (a : Mapping) (k : Element) (l : LookUp) (rows : List Mapping) (nothing : Mapping) (there given out : List Mapping) →
      nothing ≡ replicate (length vs) None → IsLookUpOf vs s l (λ d. element_solutions vs d g k) → AreSolutions s there (λ d. found vs d l nothing) → given ≡ there →
      SameBag out (flat_map (λ x. agreeing (kept vs k x (merges (met k x given) x)) a) rows) → AreMade vs s g a k rows out
  made_once g a k l rows nothing there given out en gives h eg e ea w d p f =
      let S : List Mapping = element_solutions vs d g k in
      let wide : length nothing ≡ length vs = ap length en ∙ length-replicate {A = Option Term} (length vs) None in
      let none : binds_none nothing ≡ true = ap binds_none en ∙ replicate_none (length vs) in
      let all : merges S nothing ≡ S = merges_none nothing S (length vs) none wide (element_wide d g k) in
      let bag : SameBag there S = λ f2. h d p f2 ∙ gives d p nothing wide f2 ∙ ap (sum_by f2) all in
      e f ∙ ap (λ (ys : List Mapping). sum_by f (flat_map (λ x. agreeing (kept vs k x (merges (met k x ys) x)) a) rows)) eg
      ∙ all_give (is_wide vs) (λ x. agreeing (kept vs k x (merges (met k x there) x)) a) (made vs d g a k) rows w
      (λ x wx. SameBag-filter (compatible a) (kept vs k x (merges (met k x there) x)) (kept vs k x (merges (met k x S) x))
      (SameBag-kept vs k x (merges (met k x there) x) (merges (met k x S) x) (SameBag-merges x (met k x there) (met k x S) (SameBag-met k x there S bag)))) f

  -- the first member of a group
  pub made_first : (g : GraphName) (a : Mapping) (k : Element) (rows out : List Mapping) → is_unit rows ≡ true → is_joined k ≡ true →
      AreUnder vs s a out (λ d. element_solutions vs d g k) → AreMade vs s g a k rows out
  made_first g a k [] out u j h = cc
  made_first g a (optional F A) (x ∷ []) out u j h = cc
  made_first g a (removed A) (x ∷ []) out u j h = cc
  made_first g a (joined A) (x ∷ []) out u j h = λ ea w d l f.
      h ea d l f
      ∙ ap (λ (ms : List Mapping). sum_by f (agreeing ms a))
      (sym (merges_none x (solutions vs d g A) (length vs) u (wide_from vs x (and_left (is_wide vs x) _ w)) (solutions_length vs d g A)))
      ∙ ap (sum_by f) (sym (append-nil (made vs d g a (joined A) x)))
  made_first g a k (x ∷ y ∷ xs) out u j h = cc

  pub made_gathered : (g : GraphName) (a : Mapping) (k : Element) (rows sorted out : List Mapping) → IsPermutation rows sorted → AreMade vs s g a k sorted out →
      AreMade vs s g a k rows out
  made_gathered g a k rows sorted out p h ea w d l f =
      let bag : SameBag sorted rows = λ h2. sum_by-IsPermutation h2 rows sorted p in
      h ea (same_all (is_wide vs) sorted rows bag w) d l f
      ∙ SameBag-flat_map (made vs d g a k) (made vs d g a k) sorted rows bag (λ x. SameBag-refl (made vs d g a k x)) f

  -- ---- UNION

  pub union_of_each : (g : GraphName) (a : Mapping) (ps : List Pattern) (b : Bool) → b ≡ nat_eq (length ps) 0 → b ≡ false → (d : Listing) →
      flat_map (λ p. under vs d g (translation p) a) ps ≡ under vs d g (union_of (map translation ps)) a
  union_of_each g a [] b e n d = cc
  union_of_each g a (p ∷ ps) b e n d =
      sym (filter_flat_map (compatible a) (λ q. solutions vs d g (translation q)) (p ∷ ps))
      ∙ ap (λ (xs : List Mapping). agreeing xs a) (sym (union_is vs s g d (translation p) ps))

  pub union_follows : (g : GraphName) (a : Mapping) (ps : List Pattern) (out : List Mapping) (b : Bool) → b ≡ nat_eq (length ps) 0 → b ≡ false →
      AreSolutions s out (λ d. flat_map (λ p. under vs d g (translation p) a) ps) → AreSolutions s out (λ d. under vs d g (union_of (map translation ps)) a)
  union_follows g a ps out b e n h d l f = h d l f ∙ ap (sum_by f) (union_of_each g a ps b e n d)

  pub no_union : (g : GraphName) (a : Mapping) (ps : List Pattern) (out : List Mapping) (b : Bool) → b ≡ nat_eq (length ps) 0 → b ≡ true →
      out ≡ replicate (length vs) None ∷ [] → AreUnder vs s a out (λ d. solutions vs d g (union_of (map translation ps)))
  no_union g a [] out b e n h = unit_follows g a out h
  no_union g a (p ∷ ps) out b e n h = absurd (omega (arith, eqb-true (length (p ∷ ps)) 0 (sym e ∙ n)))

  -- ---- members

  pub union_member : (g : GraphName) (a : Mapping) (member : Member) (ps given : List Pattern) (out : List Mapping) → member ≡ m.Union ps → given ≡ ps →
      AreUnder vs s a out (λ d. solutions vs d g (union_of (map translation given))) → AreUnder vs s a out (λ d. element_solutions vs d g (element member))
  union_member g a member ps given out em eg h =
      subst (λ k. AreUnder vs s a out (λ d. element_solutions vs d g k)) (sym (ap element em ∙ element-Union ps))
      (subst (λ (qs : List Pattern). AreUnder vs s a out (λ d. solutions vs d g (union_of (map translation qs)))) eg h)

  pub basic_member : (g : GraphName) (a : Mapping) (member : Member) (b : BasicGraphPattern) (out : List Mapping) → member ≡ m.Basic b →
      AreUnder vs s a out (λ d. solutions vs d g (basic b)) → AreUnder vs s a out (λ d. element_solutions vs d g (element member))
  basic_member g a member b out em h =
      subst (λ k. AreUnder vs s a out (λ d. element_solutions vs d g k)) (sym (ap element em ∙ element-Basic b)) h

  pub optional_member : (g : GraphName) (a : Mapping) (member : Member) (p : Pattern) (members : List Member) (out : List Mapping) → member ≡ m.Optional p → members ≡ p.members →
      AreUnder vs s a out (λ d. solutions vs d g (group_of (map element members))) → AreUnder vs s a out (λ d. element_solutions vs d g (element member))
  optional_member g a member p members out em es h =
      subst (λ k. AreUnder vs s a out (λ d. element_solutions vs d g k)) (sym (ap element em ∙ element-Optional p))
      (subst (λ (ms : List Member). AreUnder vs s a out (λ d. solutions vs d g (group_of (map element ms)))) es h)

  pub minus_member : (g : GraphName) (a : Mapping) (member : Member) (p : Pattern) (out : List Mapping) → member ≡ m.Minus p →
      AreUnder vs s a out (λ d. solutions vs d g (translation p)) → AreUnder vs s a out (λ d. element_solutions vs d g (element member))
  minus_member g a member p out em h =
      subst (λ k. AreUnder vs s a out (λ d. element_solutions vs d g k)) (sym (ap element em ∙ element-Minus p)) h

  pub graph_member : (g : GraphName) (a : Mapping) (member : Member) (name : VarOrIri) (p : Pattern) (out : List Mapping) → member ≡ m.Graph name p →
      ((active : GraphName) → AreUnder vs s a out (λ d. solutions vs d active (graph name (translation p)))) →
      AreUnder vs s a out (λ d. element_solutions vs d g (element member))
  graph_member g a member name p out em h =
      subst (λ k. AreUnder vs s a out (λ d. element_solutions vs d g k)) (sym (ap element em ∙ element-Graph name p)) (h g)

  -- ---- GRAPH

  pub there_follows : (A : Algebra) (n : Term) (g : GraphName) (a : Mapping) (out : List Mapping) (b : Bool) →
      ((d : Listing) → Lists s d → b ≡ list_any (same_term n) d.names) → b ≡ true → g ≡ Named n → AreUnder vs s a out (λ d. solutions vs d g A) →
      AreUnder vs s a out (λ d. cond (list_any (same_term n) d.names) (solutions vs d (Named n) A) [])
  there_follows A n g a out b there e eg h ea d l f =
      h ea d l f ∙ ap (λ k. sum_by f (under vs d k A a)) eg
      ∙ ap (λ z. sum_by f (agreeing (cond z (solutions vs d (Named n) A) []) a)) (sym e ∙ there d l)

  pub absent_follows : (A : Algebra) (n : Term) (a : Mapping) (out : List Mapping) (b : Bool) → ((d : Listing) → Lists s d → b ≡ list_any (same_term n) d.names) →
      b ≡ false → out ≡ [] → AreUnder vs s a out (λ d. cond (list_any (same_term n) d.names) (solutions vs d (Named n) A) [])
  absent_follows A n a out b there e none ea d l f =
      ap (sum_by f) none ∙ ap (λ z. sum_by f (agreeing (cond z (solutions vs d (Named n) A) []) a)) (sym e ∙ there d l)

  pub name_follows : (name : List ℕ) (A : Algebra) (a : Mapping) (n : Term) (bound both : Mapping) (g : GraphName) (found given out : List Mapping) →
      bound ≡ single vs name n → both ≡ merge a bound → g ≡ Named n → AreUnder vs s both found (λ d. solutions vs d g A) → given ≡ found →
      out ≡ map (λ x. merge x bound) given → length a ≡ length vs → AreSolutions s out (λ d. under_name vs d name A a n)
  name_follows name A a n bound both g found given out eb em eg h ei e ea d l f =
      let is : both ≡ merge a (single vs name n) = em ∙ ap (merge a) eb in
      let wide : length both ≡ length vs =
      ap length is ∙ merged_wide vs a (single vs name n) ea (length_from (length vs) (single vs name n) (single_length vs name n)) in
      ap (sum_by f) (e ∙ ap (map (λ x. merge x bound)) ei)
      ∙ SameBag-map (λ x. merge x bound) found (under vs d g A both) (h wide d l) f
      ∙ ap (λ (w : Mapping). sum_by f (map (λ x. merge x w) (under vs d g A both))) eb
      ∙ ap (λ k. sum_by f (map (λ x. merge x (single vs name n)) (under vs d k A both))) eg
      ∙ ap (λ (w : Mapping). sum_by f (map (λ x. merge x (single vs name n)) (under vs d (Named n) A w))) is

  pub variable_follows : (name : VarOrIri) (x : List ℕ) (p : Pattern) (a : Mapping) (names given : List Term) (out : List Mapping) → name ≡ v.Variable x →
      ((d : Listing) → Lists s d → SameBag names (names_left d.names (value_of vs a x))) → given ≡ names →
      (length a ≡ length vs → AreSolutions s out (λ d. flat_map (under_name vs d x (translation p) a) given)) →
      (active : GraphName) → AreUnder vs s a out (λ d. solutions vs d active (graph name (translation p)))
  variable_follows name x p a names given out en hn eg h active ea d l f =
      h ea d l f ∙ ap (λ (ns : List Term). sum_by f (flat_map (under_name vs d x (translation p) a) ns)) eg
      ∙ SameBag-flat_map (under_name vs d x (translation p) a) (under_name vs d x (translation p) a) names (names_left d.names (value_of vs a x)) (hn d l)
      (λ n. SameBag-refl (under_name vs d x (translation p) a n)) f
      ∙ ap (sum_by f) (sym (variable_under vs d active x (translation p) a ea))
      ∙ ap (λ (w : VarOrIri). sum_by f (under vs d active (graph w (translation p)) a)) (sym en)

  all_single : (x : List ℕ) (names : List Term) → list_all (has_length (length vs)) (map (single vs x) names) ≡ true
  all_single x [] = refl
  all_single x (n ∷ names) = ap (λ b. b && list_all (has_length (length vs)) (map (single vs x) names)) (single_length vs x n) ∙ all_single x names

  -- a group that doesn't see the active graph, joined with all names at once
  pub once_follows : (name : VarOrIri) (x : List ℕ) (A : Algebra) (a : Mapping) (g : GraphName) (names given : List Term) (rows shown out : List Mapping) → name ≡ v.Variable x →
      ((d : Listing) → Lists s d → SameBag names (names_left d.names (value_of vs a x))) → given ≡ names → reads A ≡ false →
      AreUnder vs s a rows (λ d. solutions vs d g A) → shown ≡ rows → SameBag out (agreeing (joins shown (map (single vs x) given)) a) →
      (active : GraphName) → AreUnder vs s a out (λ d. solutions vs d active (graph name A))
  once_follows name x A a g names given rows shown out en hn eg er h es e active ea d l f =
      let S : List Mapping = solutions vs d g A in
      let F : Term → List Mapping = λ n. joins (solutions vs d (Named n) A) (single vs x n ∷ []) in
      let left : List Term = names_left d.names (value_of vs a x) in
      let ha : has_length (length vs) a ≡ true = length_to (length vs) a ea in
      e f ∙ ap (λ (xs : List Mapping). sum_by f (agreeing (joins xs (map (single vs x) given)) a)) es
      ∙ ap (λ (ns : List Term). sum_by f (agreeing (joins rows (map (single vs x) ns)) a)) eg
      ∙ SameBag-filter (compatible a) (joins rows (map (single vs x) names)) (joins (agreeing S a) (map (single vs x) names))
      (SameBag-joins rows (agreeing S a) (map (single vs x) names) (map (single vs x) names) (h ea d l) (SameBag-refl (map (single vs x) names))) f
      ∙ ap (sum_by f) (sym (join_alone (length vs) a ha S (map (single vs x) names) (solutions_length vs d g A) (all_single x names)))
      ∙ SameBag-filter (compatible a) (joins S (map (single vs x) names)) (flat_map F left)
      (λ h2. once_for_all vs s d g x A er names h2 ∙ SameBag-flat_map F F names left (hn d l) (λ n. SameBag-refl (F n)) h2) f
      ∙ ap (sum_by f) (sym (names_kept vs x (λ n. solutions vs d (Named n) A) (λ n. solutions_length vs d (Named n) A) d.names a ea))
      ∙ ap (λ (w : VarOrIri). sum_by f (under vs d active (graph w A) a)) (sym en)

  -- ---- the cycle's steps

  -- of the look-up that there is
  pub some_of : (P : LookUp → Type 0) (o : Option LookUp) (l : LookUp) → o ≡ Some l → IfSome o P → P l
  some_of P o l e h = subst (λ (u : Option LookUp). IfSome u P) e h

  pub direct_follows : (g : GraphName) (a : Mapping) (k : Element) (rows given out : List Mapping) (o : Option Made) (m : Made) → given ≡ rows → o ≡ Some m →
      IfSome o (λ x. AreMade vs s g a k (take x.done given) x.rows.items) →
      (AreMade vs s g a k (take m.done rows) m.rows.items → AreMade vs s g a k rows out) → AreMade vs s g a k rows out
  direct_follows g a k rows given out o m e eo h r =
      r (subst (λ (xs : List Mapping). AreMade vs s g a k (take m.done xs) m.rows.items) e
      (subst (λ (x : Option Made). IfSome x (λ y. AreMade vs s g a k (take y.done given) y.rows.items)) eo h))

  -- what was made of the first rows, and what is made of the others
  pub others_follow : (g : GraphName) (a : Mapping) (k : Element) (rows others before more out : List Mapping) (n : ℕ) → others ≡ drop n rows → out ≡ before ++ more →
      AreMade vs s g a k others more → AreMade vs s g a k (take n rows) before → AreMade vs s g a k rows out
  others_follow g a k rows others before more out n er eo h r =
      made_append g a k (take n rows) others rows before more out (sym (ap (λ (xs : List Mapping). take n rows ++ xs) er ∙ take-append-drop n rows)) eo r h

  pub given_follows : (g : GraphName) (a : Mapping) (k : Element) (rows given before out : List Mapping) (n : ℕ) → given ≡ rows →
      (AreMade vs s g a k (take n given) before → AreMade vs s g a k given out) → AreMade vs s g a k (take n rows) before → AreMade vs s g a k rows out
  given_follows g a k rows given before out n e h r =
      subst (λ (xs : List Mapping). AreMade vs s g a k xs out) e (h (subst (λ (xs : List Mapping). AreMade vs s g a k (take n xs) before) (sym e) r))

  pub gathered_follow : (g : GraphName) (a : Mapping) (k : Element) (rows sorted one two before out : List Mapping) (n : ℕ) → IsPermutation rows sorted → one ≡ sorted → two ≡ sorted →
      AreMade vs s g a k (take n one) before → (AreMade vs s g a k (take n two) before → AreMade vs s g a k two out) → AreMade vs s g a k rows out
  gathered_follow g a k rows sorted one two before out n p e1 e2 h r =
      made_gathered g a k rows sorted out p
      (subst (λ (xs : List Mapping). AreMade vs s g a k xs out) e2
      (r (subst (λ (xs : List Mapping). AreMade vs s g a k (take n xs) before) (e1 ∙ sym e2) h)))

  pub asked_follows : (g : GraphName) (a : Mapping) (k : Element) (key it : Mapping) (rows : List Mapping) → it ≡ asked k a key →
      AreUnder vs s it rows (λ d. element_solutions vs d g k) → AreUnder vs s (asked k a key) rows (λ d. element_solutions vs d g k)
  asked_follows g a k key it rows e h = subst (λ (u : Mapping). AreUnder vs s u rows (λ d. element_solutions vs d g k)) e h

  pub rest_follows : (g : GraphName) (a : Mapping) (k : Element) (rows rest : List Mapping) (n : ℕ) (nothing under_it : Mapping) (before found given beside out : List Mapping) →
      rest ≡ drop n rows → nothing ≡ replicate (length vs + 0) None → under_it ≡ asked k a nothing →
      AreUnder vs s under_it found (λ d. element_solutions vs d g k) → given ≡ found →
      SameBag beside (flat_map (λ x. agreeing (kept vs k x (merges (met k x given) x)) a) rest) → out ≡ before ++ beside →
      AreMade vs s g a k (take n rows) before → AreMade vs s g a k rows out
  rest_follows g a k rows rest n nothing under_it before found given beside out er en eu h eg e eo r =
      made_append g a k (take n rows) rest rows before beside out (sym (ap (λ (xs : List Mapping). take n rows ++ xs) er ∙ take-append-drop n rows)) eo r
      (made_beside g a k rest nothing under_it found given beside en eu h eg e)

  pub first_follows : (g : GraphName) (a : Mapping) (k : Element) (rows given out : List Mapping) (b : Bool) → given ≡ rows → b ≡ (is_unit given && is_joined k) → b ≡ true →
      AreUnder vs s a out (λ d. element_solutions vs d g k) → AreMade vs s g a k rows out
  first_follows g a k rows given out b eg eb t h =
      let both : (is_unit given && is_joined k) ≡ true = sym eb ∙ t in
      subst (λ (xs : List Mapping). AreMade vs s g a k xs out) eg (made_first g a k given out (and_left (is_unit given) _ both) (and_right (is_unit given) _ both) h)

-- ---- as much as tells what an element makes of a mapping

none_as : (x : Mapping) (A B : List Mapping) → is_some_solution A ≡ is_some_solution B → where_none x A ≡ where_none x B
none_as x [] [] e = refl
none_as x [] (y ∷ B) e = cc
none_as x (y ∷ A) [] e = cc
none_as x (y ∷ A) (z ∷ B) e = refl

module _ (vs : Variables) (s : State) (x : Mapping) (l : LookUp) (out : List Mapping) where
  pub all_are_enough : (k : Element) (b : Bool) → b ≡ is_removed k → b ≡ false → AreSolutions s out (λ d. found vs d l x) → AreEnough vs s k x out (λ d. counting vs d l k x)
  all_are_enough (joined A) b eb e h d p = h d p
  all_are_enough (optional F A) b eb e h d p = SameBag-kept vs (optional F A) x out (found vs d l x) (h d p)
  all_are_enough (removed A) b eb e h d p = cc

  pub none_are_enough : (k : Element) (b c : Bool) (own : List Bool) → b ≡ is_removed k → b ≡ true → own ≡ own_columns vs l → c ≡ binds_none (masked own x) → c ≡ true →
      out ≡ [] → AreEnough vs s k x out (λ d. counting vs d l k x)
  none_are_enough (joined A) b c own eb e eo ec t h d p = cc
  none_are_enough (optional F A) b c own eb e eo ec t h d p = cc
  none_are_enough (removed A) b c own eb e eo ec t h d p =
      let unbound : binds_none (masked (own_columns vs l) x) ≡ true = ap (λ (flags : List Bool). binds_none (masked flags x)) (sym eo) ∙ sym ec ∙ t in
      λ f. ap (λ (ms : List Mapping). sum_by f (where_none x ms)) (h ∙ sym (ap (λ (u : Bool). cond u [] (found vs d l x)) unbound))

  pub some_are_enough : (k : Element) (b c : Bool) (own : List Bool) → b ≡ is_removed k → b ≡ true → own ≡ own_columns vs l → c ≡ binds_none (masked own x) → c ≡ false →
      ((d : Listing) → Lists s d → is_some_solution out ≡ is_some_solution (found vs d l x)) → AreEnough vs s k x out (λ d. counting vs d l k x)
  some_are_enough (joined A) b c own eb e eo ec t h d p = cc
  some_are_enough (optional F A) b c own eb e eo ec t h d p = cc
  some_are_enough (removed A) b c own eb e eo ec t h d p =
      let bound : binds_none (masked (own_columns vs l) x) ≡ false = ap (λ (flags : List Bool). binds_none (masked flags x)) (sym eo) ∙ sym ec ∙ t in
      λ f. ap (sum_by f) (none_as x out (found vs d l x) (h d p))
      ∙ ap (λ (ms : List Mapping). sum_by f (where_none x ms)) (sym (ap (λ (u : Bool). cond u [] (found vs d l x)) bound))
