-- Whether groups have a solution, from what their parts say.
use Rattle.std.proofs.Common.{◌≡◌, ℕ, ◌+◌, ◌<◌, ◌≤◌, Bool, true, false, not, cond, ◌&&◌, ◌||◌, List, [], ◌∷◌, map, filter, Option, None, refl, sym, ap, ◌∙◌, subst, length, drop, replicate, get_or, arith, nat_eq}
use Rattle.std.specs.List.{flat_map, list_all, list_any, fold, sum_by}
use Rattle.std.proofs.lemmas.Bool.{eqb-true, eq-eqb}
use Rattle.std.proofs.lemmas.List.{drop_more, drop_all, length-replicate}
use Rattle.rdf_terms.specs.declared.term.Term.{Term}
use Rattle.rdf_terms.specs.declared.quad.GraphName.{GraphName}
use Rattle.rdf_terms.specs.declared.quad.GraphName.TheVariants.{Named}
use Rattle.rdf_dataset.specs.State.{State}
use Rattle.sparql_trees.specs.declared.expression.Expression.{Expression}
use Rattle.sparql_trees.specs.declared.pattern.Member.{Member}
use Rattle.sparql_trees.specs.declared.pattern.Member.TheVariants as m
use Rattle.sparql_trees.specs.declared.pattern.Pattern.{Pattern}
use Rattle.sparql_trees.specs.declared.pattern.VarOrIri.{VarOrIri}
use Rattle.sparql_trees.specs.declared.pattern.VarOrIri.TheVariants as v
use Rattle.sparql_values.specs.Mapping.{Variables, Mapping, same_term, value_of, empty_mapping, single, compatible, merge}
use Rattle.sparql_algebra.specs.Algebra.{Algebra, graph, join, Element, joined, empty_pattern, filtered, extended, element, group_of, translation, union_of}
use Rattle.sparql_algebra.specs.Bags.{SameBag}
use Rattle.sparql_algebra.specs.Listing.{Listing, Lists}
use Rattle.sparql_algebra.specs.Results.{is_some_solution}
use Rattle.sparql_algebra.specs.Solutions.{satisfies, solutions}
use Rattle.sparql_algebra.specs.Under.{agreeing, names_left, under}
use Rattle.sparql_algebra.proofs.CallerLemmas.{some_same, SameBag-refl, SameBag-filter, SameBag-flat_map, SameBag-joins, filter_always, filter_under, variable_under, all_under_nothing, translation-is, element-Union, element-Graph, empty_joins, empty_solutions, single_length, solutions_length, length_from}
use Rattle.sparql_solve.specs.Ask.{SaysWhether, followed}
use Rattle.sparql_solve.specs.Sides.{HoldsOnly}
use Rattle.sparql_solve.specs.Under.{all_made, is_wide, under_name, AreUnder}
use Rattle.sparql_solve.proofs.AskLemmas.{some_append, all_made_bag}
use Rattle.sparql_solve.proofs.FollowLemmas as follow
use Rattle.sparql_solve.proofs.ResultLemmas.{some_is}

-- ---- lists that come one after another

module _ {X : Type 0} (U : X → List Mapping) (xs : List X) (i : ℕ) (h : is_some_solution (flat_map U (drop i xs)) ≡ is_some_solution (flat_map U xs)) where
  here : (x : X) → i < length xs → x ≡ get_or xs i x → (is_some_solution (U x) || is_some_solution (flat_map U (drop (i + 1) xs))) ≡ is_some_solution (flat_map U xs)
  here x lt is =
      sym (some_append (U x) (flat_map U (drop (i + 1) xs)))
      ∙ ap (λ (ys : List X). is_some_solution (flat_map U ys)) (sym (drop_more xs i x lt ∙ ap (λ (y : X). y ∷ drop (i + 1) xs) (sym is))) ∙ h

  pub some_here : (x : X) (answer : Bool) → i < length xs → x ≡ get_or xs i x → answer ≡ is_some_solution (U x) → answer ≡ true →
      true ≡ is_some_solution (flat_map U xs)
  some_here x answer lt is e t = ap (λ b. b || is_some_solution (flat_map U (drop (i + 1) xs))) (sym t ∙ e) ∙ here x lt is

  pub none_here : (x : X) (answer : Bool) → i < length xs → x ≡ get_or xs i x → answer ≡ is_some_solution (U x) → answer ≡ false →
      is_some_solution (flat_map U (drop (i + 1) xs)) ≡ is_some_solution (flat_map U xs)
  none_here x answer lt is e t = ap (λ b. b || is_some_solution (flat_map U (drop (i + 1) xs))) (sym t ∙ e) ∙ here x lt is

  pub none_at_all : length xs ≤ i → false ≡ is_some_solution (flat_map U xs)
  none_at_all le = ap (λ (ys : List X). is_some_solution (flat_map U ys)) (sym (drop_all i xs le)) ∙ h

some_map : (f : Mapping → Mapping) (xs : List Mapping) → is_some_solution (map f xs) ≡ is_some_solution xs
some_map f [] = refl
some_map f (x ∷ xs) = refl

module _ (vs : Variables) (s : State) where
  -- ---- all of it

  pub whole_says : (g : GraphName) (P : Algebra) (nothing : Mapping) (answer : Bool) → nothing ≡ replicate (length vs + 0) None →
      SaysWhether vs s nothing answer (λ d. solutions vs d g P) → (d : Listing) → Lists s d → answer ≡ is_some_solution (solutions vs d g P)
  whole_says g P nothing answer e h d l =
      let more : length vs + 0 ≡ length vs = omega arith in
      let is : nothing ≡ empty_mapping vs = e ∙ ap (λ n. replicate n None) more in
      h (ap length is ∙ length-replicate {A = Option Term} (length vs) None) d l
      ∙ ap (λ (w : Mapping). is_some_solution (under vs d g P w)) is ∙ ap is_some_solution (all_under_nothing vs d g P)

  pub rows_say : (a : Mapping) (rows given : List Mapping) (empty : Bool) (F : Listing → List Mapping) → AreUnder vs s a rows F → given ≡ rows →
      empty ≡ nat_eq (length given) 0 → SaysWhether vs s a (not empty) F
  rows_say a rows given empty F h eg e ea d l =
      ap not e ∙ some_is given ∙ ap is_some_solution eg ∙ some_same rows (agreeing (F d) a) (h ea d l)

  -- ---- a group

  filtered_follows : (g : GraphName) (a : Mapping) (d : Listing) (E : List Expression) (A : Algebra) (rows : List Mapping) → SameBag rows (under vs d g A a) →
      SameBag (filter (satisfies vs E) rows) (under vs d g (filtered E A) a)
  filtered_follows g a d [] A rows h f = ap (sum_by f) (filter_always rows) ∙ h f
  filtered_follows g a d (x ∷ E) A rows h f =
      SameBag-filter (satisfies vs (x ∷ E)) rows (under vs d g A a) h f ∙ ap (sum_by f) (sym (filter_under vs d g (x ∷ E) A a))

  extended_all : (g : GraphName) (a : Mapping) (d : Listing) → length a ≡ length vs → (ks : List Element) (G : Algebra) →
      all_made vs d g a ks (under vs d g G a) ≡ under vs d g (fold extended G ks) a
  extended_all g a d ea [] G = refl
  extended_all g a d ea (k ∷ ks) G =
      ap (all_made vs d g a ks) (follow.extended_made vs s d g G a k ea) ∙ extended_all g a d ea ks (extended G k)

  unit_wide : list_all (is_wide vs) (replicate (length vs) None ∷ []) ≡ true
  unit_wide =
      ap (λ b. b && true)
      (eq-eqb (length (replicate {A = Option Term} (length vs) None)) (length vs) (length-replicate {A = Option Term} (length vs) None))

  pub group_followed : (d : Listing) → Lists s d → (g : GraphName) (a : Mapping) → length a ≡ length vs → (p : Pattern) →
      SameBag (followed vs d g a (map element p.members) p.filters (empty_mapping vs ∷ [])) (under vs d g (translation p) a)
  group_followed d l g a ea p f =
      let ks : List Element = map element p.members in
      let rows : List Mapping = empty_mapping vs ∷ [] in
      let bag : SameBag (all_made vs d g a ks rows) (under vs d g (group_of ks) a) =
      subst (λ (xs : List Mapping). SameBag (all_made vs d g a ks rows) xs) (extended_all g a d ea ks empty_pattern)
      (all_made_bag vs d g a ks rows (under vs d g empty_pattern a) (follow.unit_follows vs s g a rows refl ea d l)) in
      filtered_follows g a d p.filters (group_of ks) (all_made vs d g a ks rows) bag f
      ∙ ap (λ A. sum_by f (under vs d g A a)) (sym (translation-is p))

  pub members_say : (g : GraphName) (a : Mapping) (p : Pattern) (ms : List Member) (F : List Expression) (rows : List Mapping) (answer : Bool) → ms ≡ p.members → F ≡ p.filters →
      rows ≡ replicate (length vs) None ∷ [] →
      ((d : Listing) → Lists s d → length a ≡ length vs → list_all (is_wide vs) rows ≡ true →
      answer ≡ is_some_solution (followed vs d g a (map element ms) F rows)) → SaysWhether vs s a answer (λ d. solutions vs d g (translation p))
  members_say g a p ms F rows answer em ef er h ea d l =
      let ks : List Element = map element p.members in
      h d l ea (ap (list_all (is_wide vs)) er ∙ unit_wide)
      ∙ ap (λ (ys : List Member). is_some_solution (followed vs d g a (map element ys) F rows)) em
      ∙ ap (λ (E : List Expression). is_some_solution (followed vs d g a ks E rows)) ef
      ∙ ap (λ (xs : List Mapping). is_some_solution (followed vs d g a ks p.filters xs)) er
      ∙ some_same (followed vs d g a ks p.filters (empty_mapping vs ∷ [])) (under vs d g (translation p) a) (group_followed d l g a ea p)

  -- ---- a member that stands alone

  unit_joined : (g : GraphName) (A : Algebra) (d : Listing) → SameBag (solutions vs d g (join empty_pattern A)) (solutions vs d g A)
  unit_joined g A d f =
      let S : List Mapping = solutions vs d g A in
      SameBag-joins (solutions vs d g empty_pattern) (empty_mapping vs ∷ []) S S (empty_solutions vs (d.quads g)) (SameBag-refl S) f
      ∙ empty_joins vs S (solutions_length vs d g A) f

  pub lone_says : (g : GraphName) (a : Mapping) (p : Pattern) (x : Member) (A : Algebra) (answer : Bool) → HoldsOnly p x → element x ≡ joined A →
      SaysWhether vs s a answer (λ d. solutions vs d g A) → SaysWhether vs s a answer (λ d. solutions vs d g (translation p))
  lone_says g a p x A answer only e h ea d l =
      let is : translation p ≡ join empty_pattern A =
      translation-is p ∙ ap (λ (E : List Expression). filtered E (group_of (map element p.members))) only.filters
      ∙ ap (λ (ys : List Member). group_of (map element ys)) only.member ∙ ap (λ k. group_of (k ∷ [])) e in
      h ea d l
      ∙ sym (some_same (under vs d g (join empty_pattern A) a) (under vs d g A a)
      (SameBag-filter (compatible a) (solutions vs d g (join empty_pattern A)) (solutions vs d g A) (unit_joined g A d)))
      ∙ ap (λ B. is_some_solution (under vs d g B a)) (sym is)

  pub lone_union_says : (g : GraphName) (a : Mapping) (p : Pattern) (x : Member) (ps given : List Pattern) (answer : Bool) → HoldsOnly p x → x ≡ m.Union ps → given ≡ ps →
      SaysWhether vs s a answer (λ d. solutions vs d g (union_of (map translation given))) → SaysWhether vs s a answer (λ d. solutions vs d g (translation p))
  lone_union_says g a p x ps given answer only ex eg h =
      lone_says g a p x (union_of (map translation ps)) answer only (ap element ex ∙ element-Union ps)
      (subst (λ (qs : List Pattern). SaysWhether vs s a answer (λ d. solutions vs d g (union_of (map translation qs)))) eg h)

  pub lone_graph_says : (g : GraphName) (a : Mapping) (p : Pattern) (x : Member) (name : VarOrIri) (inner : Pattern) (answer : Bool) → HoldsOnly p x → x ≡ m.Graph name inner →
      ((active : GraphName) → SaysWhether vs s a answer (λ d. solutions vs d active (graph name (translation inner)))) →
      SaysWhether vs s a answer (λ d. solutions vs d g (translation p))
  lone_graph_says g a p x name inner answer only ex h =
      lone_says g a p x (graph name (translation inner)) answer only (ap element ex ∙ element-Graph name inner) (h g)

  -- ---- UNION

  pub no_union_says : (g : GraphName) (a : Mapping) (ps : List Pattern) (b : Bool) → b ≡ nat_eq (length ps) 0 → b ≡ true →
      SaysWhether vs s a true (λ d. solutions vs d g (union_of (map translation ps)))
  no_union_says g a [] b e n = λ ea d l.
      some_same (replicate (length vs) None ∷ []) (under vs d g empty_pattern a) (follow.unit_follows vs s g a (replicate (length vs) None ∷ []) refl ea d l)
  no_union_says g a (p ∷ ps) b e n = absurd (omega (arith, eqb-true (length (p ∷ ps)) 0 (sym e ∙ n)))

  pub union_says : (g : GraphName) (a : Mapping) (ps : List Pattern) (b answer : Bool) → b ≡ nat_eq (length ps) 0 → b ≡ false → (d : Listing) →
      answer ≡ is_some_solution (flat_map (λ p. under vs d g (translation p) a) ps) → answer ≡ is_some_solution (under vs d g (union_of (map translation ps)) a)
  union_says g a ps b answer e n d h = h ∙ ap is_some_solution (follow.union_of_each vs s g a ps b e n d)

  -- ---- GRAPH

  pub there_says : (A : Algebra) (n : Term) (g : GraphName) (a : Mapping) (answer b : Bool) → ((d : Listing) → Lists s d → b ≡ list_any (same_term n) d.names) →
      b ≡ true → g ≡ Named n → SaysWhether vs s a answer (λ d. solutions vs d g A) →
      SaysWhether vs s a answer (λ d. cond (list_any (same_term n) d.names) (solutions vs d (Named n) A) [])
  there_says A n g a answer b there e eg h ea d l =
      h ea d l ∙ ap (λ k. is_some_solution (under vs d k A a)) eg
      ∙ ap (λ z. is_some_solution (agreeing (cond z (solutions vs d (Named n) A) []) a)) (sym e ∙ there d l)

  pub absent_says : (A : Algebra) (n : Term) (a : Mapping) (b : Bool) → ((d : Listing) → Lists s d → b ≡ list_any (same_term n) d.names) → b ≡ false →
      SaysWhether vs s a false (λ d. cond (list_any (same_term n) d.names) (solutions vs d (Named n) A) [])
  absent_says A n a b there e ea d l = ap (λ z. is_some_solution (agreeing (cond z (solutions vs d (Named n) A) []) a)) (sym e ∙ there d l)

  pub name_says : (name : List ℕ) (A : Algebra) (a : Mapping) (n : Term) (bound both : Mapping) (g : GraphName) (answer : Bool) → bound ≡ single vs name n → both ≡ merge a bound →
      g ≡ Named n → SaysWhether vs s both answer (λ d. solutions vs d g A) → length a ≡ length vs → (d : Listing) → Lists s d →
      answer ≡ is_some_solution (under_name vs d name A a n)
  name_says name A a n bound both g answer eb em eg h ea d l =
      let is : both ≡ merge a (single vs name n) = em ∙ ap (merge a) eb in
      let wide : length both ≡ length vs =
      ap length is ∙ follow.merged_wide vs a (single vs name n) ea (length_from (length vs) (single vs name n) (single_length vs name n)) in
      h wide d l ∙ ap (λ k. is_some_solution (under vs d k A both)) eg
      ∙ ap (λ (w : Mapping). is_some_solution (under vs d (Named n) A w)) is
      ∙ sym (some_map (λ x. merge x (single vs name n)) (under vs d (Named n) A (merge a (single vs name n))))

  pub variable_says : (name : VarOrIri) (x : List ℕ) (A : Algebra) (a : Mapping) (names given : List Term) (answer : Bool) → name ≡ v.Variable x →
      ((d : Listing) → Lists s d → SameBag names (names_left d.names (value_of vs a x))) → given ≡ names →
      (length a ≡ length vs → (d : Listing) → Lists s d → answer ≡ is_some_solution (flat_map (under_name vs d x A a) given)) →
      (active : GraphName) → SaysWhether vs s a answer (λ d. solutions vs d active (graph name A))
  variable_says name x A a names given answer en hn eg h active ea d l =
      let left : List Term = names_left d.names (value_of vs a x) in
      h ea d l ∙ ap (λ (ns : List Term). is_some_solution (flat_map (under_name vs d x A a) ns)) eg
      ∙ some_same (flat_map (under_name vs d x A a) names) (flat_map (under_name vs d x A a) left)
      (SameBag-flat_map (under_name vs d x A a) (under_name vs d x A a) names left (hn d l) (λ n. SameBag-refl (under_name vs d x A a n)))
      ∙ ap is_some_solution (sym (variable_under vs d active x A a ea))
      ∙ ap (λ (w : VarOrIri). is_some_solution (under vs d active (graph w A) a)) (sym en)
