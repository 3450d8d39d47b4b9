-- What is looked up under a row gives its merges with the right side's solutions.
use Rattle.std.proofs.Common.{◌≡◌, ℕ, ◌+◌, ◌*◌, ◌≤◌, zero, suc, Bool, true, false, cond, ◌&&◌, List, [], ◌∷◌, ◌++◌, map, Option, Some, None, IfSome, refl, sym, ap, ◌∙◌, subst, length, drop, replicate, arith, append-nil}
use Rattle.std.specs.Prelude.{slice_set}
use Rattle.std.specs.List.{flat_map, sum_by, count_by, list_any, list_all}
use Rattle.std.proofs.lemmas.List.{drop_all, length-replicate}
use Rattle.std.proofs.lemmas.List.Sums.{sum_by-cons}
use Rattle.rdf_terms.specs.declared.term.Term.{Term}
use Rattle.rdf_terms.specs.declared.term.Term.TheVariants as t
use Rattle.rdf_terms.specs.declared.quad.GraphName.{GraphName}
use Rattle.rdf_terms.specs.declared.quad.GraphName.TheVariants.{Named}
use Rattle.rdf_dataset.specs.State.{State}
use Rattle.rdf_dataset.specs.Sorted.{ListsOnce}
use Rattle.sparql_trees.specs.declared.expression.Expression.{Expression}
use Rattle.sparql_trees.specs.declared.pattern.BasicGraphPattern.{BasicGraphPattern}
use Rattle.sparql_trees.specs.declared.pattern.Member.{Member}
use Rattle.sparql_trees.specs.declared.pattern.Member.TheVariants as m
use Rattle.sparql_trees.specs.declared.pattern.Pattern.{Pattern}
use Rattle.sparql_trees.specs.declared.pattern.VarOrIri.{VarOrIri}
use Rattle.sparql_trees.specs.declared.pattern.VarOrIri.TheVariants as v
use Rattle.sparql_values.specs.Mapping.{Variables, Mapping, same_term, column, value_at, value_in, value_of, set_in, single, empty_mapping, compatible, merge}
use Rattle.sparql_algebra.specs.Algebra.{Algebra, basic, join, graph, empty_pattern, Element, joined, optional, removed, filtered, extended, element, group_of, translation, union_of}
use Rattle.sparql_algebra.specs.Bags.{SameBag}
use Rattle.sparql_algebra.specs.Listing.{Listing, Lists}
use Rattle.sparql_algebra.specs.Solutions.{basic_solutions, merges, joins, solutions}
use Rattle.sparql_algebra.proofs.CallerLemmas.{one, sum_by-cong, sum_by-flat_map, SameBag-refl, SameBag-merges, SameBag-joins, SameBag-flat_map, has_length, length_from, length_to, merge_length, set_length, solutions_length, sum_where, sum_zero, same_term_is, name_once, names_same, translation-is, element-Basic, element-Union, element-Optional, element-Graph, empty_solutions, empty_joins, joins_commute, joins_associate}
use Rattle.sparql_solve.specs.declared.look_ups.Graphs.{Graphs}
use Rattle.sparql_solve.specs.declared.look_ups.Graphs.TheVariants.{One, Each}
use Rattle.sparql_solve.specs.declared.look_ups.LookUp.{LookUp}
use Rattle.sparql_solve.specs.Sides.{graph_where, graphs_of, look_up_in, tried, found_in, found_under, found_among, found, where_joined, lone_joined, HoldsJust}
use Rattle.sparql_solve.specs.Members.{AreSolutions, AreMoreSolutions, element_solutions}
use Rattle.sparql_solve.specs.Under.{IsLookUpOf}
use Rattle.sparql_solve.proofs.BasicLemmas.{set_of_triples}
use Rattle.sparql_solve.proofs.UnderLemmas.{sum_merges, looked_up_bag}

-- ---- what passes a test

module _ {X : Type 0} (q : X → Bool) where
  fails : X → ℕ
  fails x = cond (q x) 0 1

  none_fails : (xs : List X) → list_all q xs ≡ true → sum_by fails xs ≡ 0
  unfolding fails
  none_fails xs h = sum_where q fails (λ x. 0) (λ x e. ap (λ b. cond b 0 1) e) xs h ∙ sum_zero (λ x. 0) xs (λ x. refl)

  all_pass : (xs : List X) → sum_by fails xs ≡ 0 → list_all q xs ≡ true
  unfolding fails
  all_pass [] h = refl
  all_pass (x ∷ xs) h = by_test (q x) refl (all_pass xs)
    where
      sums : cond (q x) 0 1 + sum_by fails xs ≡ 0
      sums = sym (sum_by-cons fails x xs) ∙ h

      by_test : (b : Bool) → q x ≡ b → (sum_by fails xs ≡ zero → list_all q xs ≡ true) → (b && list_all q xs) ≡ true
      by_test true e k = k (omega (arith, sums))
      by_test false e k = let z : fails x ≡ 1 = ap (λ c. cond c 0 1) e in absurd (omega (arith, sums, z))

  pub same_all : (xs ys : List X) → SameBag xs ys → list_all q ys ≡ true → list_all q xs ≡ true
  same_all xs ys h k = all_pass xs (h fails ∙ none_fails ys k)

  -- what each element gives, all of them give
  pub all_give : {Y : Type 0} (F G : X → List Y) (xs : List X) → list_all q xs ≡ true → ((x : X) → q x ≡ true → SameBag (F x) (G x)) →
      SameBag (flat_map F xs) (flat_map G xs)
  all_give F G xs h each f =
      sum_by-flat_map f F xs ∙ sum_where q (λ x. sum_by f (F x)) (λ x. sum_by f (G x)) (λ x e. each x e f) xs h ∙ sym (sum_by-flat_map f G xs)

-- ---- the names tried

pub times_once : (c k : ℕ) (b : Bool) → c ≡ one b → c * k ≡ cond b k 0
times_once c k true e = ap (λ n. n * k) e ∙ omega arith
times_once c k false e = ap (λ n. n * k) e ∙ omega arith

pub sum_times : {X : Type 0} (q : X → Bool) (k : ℕ) (xs : List X) → sum_by (λ x. cond (q x) k 0) xs ≡ count_by q xs * k
sum_times q k [] = omega arith
sum_times q k (x ∷ xs) =
    sum_by-cons (λ y. cond (q y) k 0) x xs ∙ ap (λ n. cond (q x) k 0 + n) (sum_times q k xs) ∙ by_test (q x)
    ∙ ap (λ n. n * k) (sym (sum_by-cons (λ y. cond (q y) 1 0) x xs))
  where
    by_test : (b : Bool) → cond b k 0 + count_by q xs * k ≡ (cond b 1 0 + count_by q xs) * k
    by_test true = omega arith
    by_test false = omega arith

module _ (s : State) (names : List Term) (h : ListsOnce s.names names) (F : Term → List Mapping) where
  tried_name : (n : Term) → ((u : Term) → same_term n u ≡ false → F u ≡ []) → SameBag (flat_map F (tried names (Some n))) (flat_map F names)
  tried_name n none f =
      by_test (list_any (same_term n) names) ∙ sym (times_once (count_by (same_term n) names) (sum_by f (F n)) (list_any (same_term n) names) (name_once s names h n))
      ∙ sym (sum_times (same_term n) (sum_by f (F n)) names)
      ∙ sum_by-cong (λ u. cond (same_term n u) (sum_by f (F n)) 0) (λ u. sum_by f (F u)) names (λ u. at_name u (same_term n u) refl)
      ∙ sym (sum_by-flat_map f F names)
    where
      at_name : (u : Term) (b : Bool) → same_term n u ≡ b → cond b (sum_by f (F n)) 0 ≡ sum_by f (F u)
      at_name u true e = ap (λ (x : Term). sum_by f (F x)) (same_term_is n u e)
      at_name u false e = sym (ap (sum_by f) (none u e))

      by_test : (b : Bool) → sum_by f (flat_map F (cond b (n ∷ []) [])) ≡ cond b (sum_by f (F n)) 0
      by_test true = ap (sum_by f) (append-nil (F n))
      by_test false = refl

  tried_gives : (x : Option Term) → ((n u : Term) → x ≡ Some n → same_term n u ≡ false → F u ≡ []) → SameBag (flat_map F (tried names x)) (flat_map F names)
  tried_gives (Some n) none = tried_name n (λ u e. none n u refl e)
  tried_gives None none = SameBag-refl (flat_map F names)

-- a mapping that has another term at the variable
other_at : (m : Mapping) (k c : ℕ) (n u : Term) → length m ≡ k → value_at m c ≡ Some n → same_term n u ≡ false →
    compatible m (slice_set (replicate k None) c (Some u)) ≡ false
other_at [] k zero n u e h z = cc
other_at [] k (suc c) n u e h z = cc
other_at (x ∷ m) zero c n u e h z = absurd (omega arith)
other_at (None ∷ m) (suc k) zero n u e h z = cc
other_at (Some y ∷ m) (suc k) zero n u e h z =
    let is : y ≡ n = cc in
    ap (λ (w : Term). same_term w u && compatible m (replicate k None)) is ∙ ap (λ b. b && compatible m (replicate k None)) z
other_at (None ∷ m) (suc k) (suc c) n u e h z = other_at m k c n u (omega arith) h z
other_at (Some y ∷ m) (suc k) (suc c) n u e h z = other_at m k c n u (omega arith) h z

other_bound : (vs : Variables) (m : Mapping) (name : List ℕ) (n u : Term) → length m ≡ length vs → value_of vs m name ≡ Some n → same_term n u ≡ false →
    compatible m (single vs name u) ≡ false
other_bound vs m name n u e h z = at (column vs name) h
  where
    at : (o : Option ℕ) → value_in m o ≡ Some n → compatible m (set_in (empty_mapping vs) o u) ≡ false
    at (Some c) k = other_at m (length vs) c n u e k z
    at None k = cc

-- ---- joins one by one

merges_is : (B : List Mapping) (m : Mapping) → SameBag (merges B m) (joins (m ∷ []) B)
merges_is B m f = ap (sum_by f) (sym (append-nil (merges B m)))

merges_flat : {X : Type 0} (K : X → List Mapping) (xs : List X) (m : Mapping) → SameBag (merges (flat_map K xs) m) (flat_map (λ x. merges (K x) m) xs)
merges_flat K xs m f =
    sum_merges f (flat_map K xs) m ∙ sum_by-flat_map (λ b. cond (compatible m b) (f (merge m b)) 0) K xs
    ∙ sum_by-cong (λ x. sum_by (λ b. cond (compatible m b) (f (merge m b)) 0) (K x)) (λ x. sum_by f (merges (K x) m)) xs (λ x. sym (sum_merges f (K x) m))
    ∙ sym (sum_by-flat_map f (λ x. merges (K x) m) xs)

list_of_one : (n : ℕ) (m : Mapping) → has_length n m ≡ true → list_all (has_length n) (m ∷ []) ≡ true
list_of_one n m h = ap (λ b. b && true) h

-- joined to one mapping first, or last
one_first : (n : ℕ) (m a : Mapping) (B : List Mapping) → has_length n m ≡ true → has_length n a ≡ true → list_all (has_length n) B ≡ true →
    SameBag (cond (compatible m a) (merges B (merge m a)) []) (merges (joins B (a ∷ [])) m)
one_first n m a B hm ha hb f =
    by_test (compatible m a)
    ∙ joins_associate n (m ∷ []) (a ∷ []) B (list_of_one n m hm) (list_of_one n a ha) hb f
    ∙ SameBag-joins (m ∷ []) (m ∷ []) (joins (a ∷ []) B) (joins B (a ∷ [])) (SameBag-refl (m ∷ [])) (joins_commute (a ∷ []) B) f
    ∙ sym (merges_is (joins B (a ∷ [])) m f)
  where
    by_test : (b : Bool) → sum_by f (cond b (merges B (merge m a)) []) ≡ sum_by f (joins (map (merge m) (cond b (a ∷ []) []) ++ []) B)
    by_test true = merges_is B (merge m a) f
    by_test false = refl

-- ---- the empty pattern before

pub unit_bag : (vs : Variables) (d : Listing) (g : GraphName) (A : Algebra) → SameBag (solutions vs d g (join empty_pattern A)) (solutions vs d g A)
unit_bag vs d g A f =
    SameBag-joins (solutions vs d g empty_pattern) (empty_mapping vs ∷ []) (solutions vs d g A) (solutions vs d g A) (empty_solutions vs (d.quads g))
    (SameBag-refl (solutions vs d g A)) f
    ∙ empty_joins vs (solutions vs d g A) (solutions_length vs d g A) f

just_is : (p : Pattern) (b : BasicGraphPattern) → HoldsJust p b → translation p ≡ join empty_pattern (basic b)
just_is p b h =
    translation-is p ∙ ap (λ (F : List Expression). filtered F (group_of (map element p.members))) h.filters
    ∙ ap (λ (ms : List Member). group_of (map element ms)) h.member ∙ ap (extended empty_pattern) (element-Basic b)

module _ (vs : Variables) (d : Listing) (p : Pattern) (b : BasicGraphPattern) (h : HoldsJust p b) where
  pub just_bag : (g : GraphName) → SameBag (basic_solutions vs (d.quads g) b) (solutions vs d g (translation p))
  just_bag g f = sym (unit_bag vs d g (basic b) f) ∙ ap (λ A. sum_by f (solutions vs d g A)) (sym (just_is p b h))

-- ---- look-ups

single_wide : (vs : Variables) (name : List ℕ) (n : Term) → has_length (length vs) (single vs name n) ≡ true
single_wide vs name n =
    length_to (length vs) (single vs name n) (set_length (empty_mapping vs) (column vs name) n ∙ length-replicate (length vs) None)

module _ (vs : Variables) (s : State) (d : Listing) (l : Lists s d) (b : BasicGraphPattern) (graphs : Graphs) where
  abbrev up : LookUp
  up = look_up_in vs graphs b

  in_bag : (g : GraphName) (m : Mapping) → length m ≡ length vs → SameBag (found_in d up g m) (merges (basic_solutions vs (d.quads g) b) m)
  in_bag g m e = looked_up_bag vs (d.quads g) (set_of_triples s g (d.quads g) (l.quads g)) b m e

  module _ (p : Pattern) (h : HoldsJust p b) where
    inner : GraphName → List Mapping
    inner g = solutions vs d g (translation p)

    inner_bag : (g : GraphName) (m : Mapping) → length m ≡ length vs → SameBag (found_in d up g m) (merges (inner g) m)
    unfolding inner
    inner_bag g m e f = in_bag g m e f ∙ SameBag-merges m (basic_solutions vs (d.quads g) b) (inner g) (just_bag vs d p b h g) f

    under_bag : (name : List ℕ) (m : Mapping) → length m ≡ length vs → (n : Term) →
        SameBag (found_under vs d up name m n) (merges (joins (inner (Named n)) (single vs name n ∷ [])) m)
    unfolding inner
    under_bag name m e n f =
        let wide_m : has_length (length vs) m ≡ true = length_to (length vs) m e in
        let bound : Mapping = single vs name n in
        let after : length (merge m bound) ≡ length vs =
        length_from (length vs) (merge m bound) (merge_length (length vs) m bound wide_m (single_wide vs name n)) in
        by_test (compatible m bound) (inner_bag (Named n) (merge m bound) after f)
        ∙ one_first (length vs) m bound (inner (Named n)) wide_m (single_wide vs name n) (solutions_length vs d (Named n) (translation p)) f
      where
        by_test : (t : Bool) → sum_by f (found_in d up (Named n) (merge m (single vs name n))) ≡ sum_by f (merges (inner (Named n)) (merge m (single vs name n))) →
            sum_by f (cond t (found_in d up (Named n) (merge m (single vs name n))) []) ≡ sum_by f (cond t (merges (inner (Named n)) (merge m (single vs name n))) [])
        by_test true k = k
        by_test false k = refl

    each_bag : (name : List ℕ) (m : Mapping) → length m ≡ length vs →
        SameBag (found_among vs d up (Each name) m) (merges (flat_map (λ n. joins (inner (Named n)) (single vs name n ∷ [])) d.names) m)
    each_bag name m e f =
        tried_gives s d.names l.names (found_under vs d up name m) (value_of vs m name)
        (λ n u x z. ap (λ t. cond t (found_in d up (Named u) (merge m (single vs name u))) []) (other_bound vs m name n u e x z)) f
        ∙ SameBag-flat_map (found_under vs d up name m) (λ n. merges (joins (inner (Named n)) (single vs name n ∷ [])) m) d.names d.names
        (SameBag-refl d.names) (under_bag name m e) f
        ∙ sym (merges_flat (λ n. joins (inner (Named n)) (single vs name n ∷ [])) d.names m f)

    graph_bag : (name : VarOrIri) (active : GraphName) (m : Mapping) → length m ≡ length vs →
        SameBag (found_among vs d up (graphs_of d.names name) m) (merges (solutions vs d active (graph name (translation p))) m)
    unfolding inner
    graph_bag (v.Variable name) active m e = each_bag name m e
    graph_bag (v.Iri iri) active m e = by_test (list_any (same_term (t.Iri iri)) d.names)
      where
        by_test : (b : Bool) → SameBag (found_among vs d up (graph_where b (t.Iri iri)) m) (merges (cond b (inner (Named (t.Iri iri))) []) m)
        by_test true = inner_bag (Named (t.Iri iri)) m e
        by_test false = SameBag-refl []

-- ---- members that are looked up

pub some_weaker : {X : Type 0} (o : Option X) (P Q : X → Type 0) → ((x : X) → P x → Q x) → IfSome o P → IfSome o Q
some_weaker None P Q h k = k
some_weaker (Some x) P Q h k = h x k

module _ (vs : Variables) (s : State) where
  pub graph_look_up : (name : VarOrIri) (p : Pattern) (b : BasicGraphPattern) (graphs : Graphs) (l : LookUp) → HoldsJust p b →
      ((d : Listing) → Lists s d → graphs ≡ graphs_of d.names name) → l ≡ look_up_in vs graphs b → (active : GraphName) →
      IsLookUpOf vs s l (λ d. solutions vs d active (graph name (translation p)))
  graph_look_up name p b graphs l h e is active d k m w f =
      ap (λ (u : LookUp). sum_by f (found vs d u m)) is ∙ ap (λ (gs : Graphs). sum_by f (found vs d (look_up_in vs gs b) m)) (e d k)
      ∙ graph_bag vs s d k b (graphs_of d.names name) p h name active m w f

  pub basic_look_up : (g : GraphName) (member : Member) (b : BasicGraphPattern) (graphs : Graphs) (own : GraphName) (l : LookUp) → member ≡ m.Basic b →
      graphs ≡ One own → own ≡ g → l ≡ look_up_in vs graphs b → IsLookUpOf vs s l (λ d. element_solutions vs d g (element member))
  basic_look_up g member b graphs own l em eg eo is d k m w f =
      ap (λ (u : LookUp). sum_by f (found vs d u m)) (is ∙ ap (λ (gs : Graphs). look_up_in vs gs b) (eg ∙ ap One eo))
      ∙ in_bag vs s d k b (One g) g m w f
      ∙ ap (λ (x : Element). sum_by f (merges (element_solutions vs d g x) m)) (sym (ap element em ∙ element-Basic b))

  -- a group alone, without UNION
  pub group_look_up : (g : GraphName) (groups : List Pattern) (p : Pattern) (b : BasicGraphPattern) (graphs : Graphs) (own : GraphName) (l : LookUp) → groups ≡ p ∷ [] →
      HoldsJust p b → graphs ≡ One own → own ≡ g → l ≡ look_up_in vs graphs b → IsLookUpOf vs s l (λ d. solutions vs d g (union_of (map translation groups)))
  unfolding inner
  group_look_up g groups p b graphs own l ep h eg eo is d k m w f =
      ap (λ (u : LookUp). sum_by f (found vs d u m)) (is ∙ ap (λ (gs : Graphs). look_up_in vs gs b) (eg ∙ ap One eo))
      ∙ inner_bag vs s d k b (One g) p h g m w f
      ∙ ap (λ (ps : List Pattern). sum_by f (merges (solutions vs d g (union_of (map translation ps))) m)) (sym ep)

  pub union_look_up : (g : GraphName) (member : Member) (ps given : List Pattern) (l : LookUp) → member ≡ m.Union ps → given ≡ ps →
      IsLookUpOf vs s l (λ d. solutions vs d g (union_of (map translation given))) → IsLookUpOf vs s l (λ d. element_solutions vs d g (element member))
  union_look_up g member ps given l em eg h =
      subst (λ k. IsLookUpOf vs s l (λ d. element_solutions vs d g k)) (sym (ap element em ∙ element-Union ps))
      (subst (λ (qs : List Pattern). IsLookUpOf vs s l (λ d. solutions vs d g (union_of (map translation qs)))) eg h)

  -- OPTIONAL's group of one member
  lone_is : (members : List Member) (x : Member) → lone_joined members ≡ Some x → members ≡ x ∷ []
  lone_is [] x h = cc
  lone_is (y ∷ []) x h = by_kind (element y) h
    where
      by_kind : (k : Element) → where_joined y k ≡ Some x → (y ∷ []) ≡ (x ∷ [])
      by_kind (joined A) e = let is : y ≡ x = cc in ap (λ (z : Member). z ∷ []) is
      by_kind (optional F A) e = cc
      by_kind (removed A) e = cc
  lone_is (y ∷ z ∷ xs) x h = cc

  joined_bag : (d : Listing) (g : GraphName) (x y : Member) (k : Element) → where_joined x k ≡ Some y →
      SameBag (element_solutions vs d g k) (solutions vs d g (extended empty_pattern k))
  joined_bag d g x y (joined A) h f = sym (unit_bag vs d g A f)
  joined_bag d g x y (optional F A) h f = cc
  joined_bag d g x y (removed A) h f = cc

  pub optional_look_up : (g : GraphName) (member : Member) (p : Pattern) (given : List Member) (x : Member) (l : LookUp) → member ≡ m.Optional p → given ≡ p.members →
      lone_joined given ≡ Some x → IsLookUpOf vs s l (λ d. element_solutions vs d g (element x)) → IsLookUpOf vs s l (λ d. element_solutions vs d g (element member))
  optional_look_up g member p given x l em es e r d k m w f =
      let is : given ≡ x ∷ [] = lone_is given x e in
      r d k m w f
      ∙ SameBag-merges m (element_solutions vs d g (element x)) (solutions vs d g (extended empty_pattern (element x)))
      (joined_bag d g x x (element x) (ap lone_joined (sym is) ∙ e)) f
      ∙ ap (λ (ms : List Member). sum_by f (merges (solutions vs d g (group_of (map element ms))) m)) (sym is ∙ es)
      ∙ ap (λ (y : Element). sum_by f (merges (element_solutions vs d g y) m)) (sym (ap element em ∙ element-Optional p))

  pub look_up_member : (g : GraphName) (member : Member) (name : VarOrIri) (p : Pattern) (l : LookUp) → member ≡ m.Graph name p →
      ((active : GraphName) → IsLookUpOf vs s l (λ d. solutions vs d active (graph name (translation p)))) →
      IsLookUpOf vs s l (λ d. element_solutions vs d g (element member))
  look_up_member g member name p l em h d k m w f =
      h g d k m w f ∙ ap (λ (x : Element). sum_by f (merges (element_solutions vs d g x) m)) (sym (ap element em ∙ element-Graph name p))

-- ---- what the steps give

pub tried_all : (s : State) (value : Option Term) (names : List Term) → value ≡ None → ListsOnce s.names names → (d : Listing) → Lists s d →
    SameBag names (tried d.names value)
tried_all s value names e h d l f = names_same s names d.names h l.names f ∙ ap (λ (x : Option Term). sum_by f (tried d.names x)) (sym e)

module _ (vs : Variables) (s : State) (l : LookUp) (name : List ℕ) (m : Mapping) where
  pub under_name_gives : (n : Term) (bound after : Mapping) (g : GraphName) (b : Bool) (out : List Mapping) → bound ≡ single vs name n → b ≡ compatible m bound →
      b ≡ true → after ≡ merge m bound → g ≡ Named n → AreSolutions s out (λ d. found_in d l g after) → AreSolutions s out (λ d. found_under vs d l name m n)
  under_name_gives n bound after g b out eb ec et ea eg h d k f =
      h d k f ∙ ap (λ (x : GraphName). sum_by f (found_in d l x after)) eg
      ∙ ap (λ (x : Mapping). sum_by f (found_in d l (Named n) x)) (ea ∙ ap (merge m) eb)
      ∙ ap (λ t. sum_by f (cond t (found_in d l (Named n) (merge m (single vs name n))) [])) (sym (sym (ec ∙ ap (compatible m) eb) ∙ et))

  pub each_gives : (c : Option ℕ) (value : Option Term) (names given : List Term) (out : List Mapping) → l.graphs ≡ Each name → c ≡ column vs name →
      value ≡ value_in m c → ((d : Listing) → Lists s d → SameBag names (tried d.names value)) → given ≡ names →
      AreSolutions s out (λ d. flat_map (found_under vs d l name m) given) → AreSolutions s out (λ d. found vs d l m)
  each_gives c value names given out eg ec ev en ei h d k f =
      h d k f ∙ ap (λ (ns : List Term). sum_by f (flat_map (found_under vs d l name m) ns)) ei
      ∙ SameBag-flat_map (found_under vs d l name m) (found_under vs d l name m) names (tried d.names value) (en d k)
      (λ n. SameBag-refl (found_under vs d l name m n)) f
      ∙ ap (λ (x : Option Term). sum_by f (flat_map (found_under vs d l name m) (tried d.names x))) (ev ∙ ap (value_in m) ec)
      ∙ ap (λ (gs : Graphs). sum_by f (found_among vs d l gs m)) (sym eg)

-- all of them are done
pub done_gives : {X : Type 0} (s : State) (F : Listing → X → List Mapping) (xs : List X) (i : ℕ) (out : List Mapping) → length xs ≤ i →
    AreMoreSolutions s out (λ d. flat_map (F d) (drop i xs)) (λ d. flat_map (F d) xs) → AreSolutions s out (λ d. flat_map (F d) xs)
done_gives {X} s F xs i out lt h d l f =
    ap (sum_by f) (sym (append-nil out)) ∙ ap (λ (ys : List X). sum_by f (out ++ flat_map (F d) ys)) (sym (drop_all i xs lt)) ∙ h d l f
