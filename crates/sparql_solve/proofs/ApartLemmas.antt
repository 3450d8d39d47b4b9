-- GRAPH with a variable, of which members at the end are found apart: those that don't see the active graph.
use Rattle.std.proofs.Common.{◌≡◌, ℕ, ◌+◌, ◌<◌, ◌≤◌, Bool, true, false, not, ◌&&◌, List, [], ◌∷◌, ◌++◌, map, filter, refl, sym, ap, ◌∙◌, subst, length, take, drop, get_or, arith}
use Rattle.std.specs.List.{flat_map, list_all, fold, sum_by}
use Rattle.std.proofs.lemmas.Grind.{flat_map-append}
use Rattle.std.proofs.lemmas.List.{drop_more, drop_all, map-append, take_all, take-append-drop}
use Rattle.rdf_terms.specs.declared.term.Term.{Term}
use Rattle.rdf_terms.specs.declared.quad.GraphName.{GraphName}
use Rattle.rdf_terms.specs.declared.quad.GraphName.TheVariants.{Named}
use Rattle.rdf_dataset.specs.State.{State}
use Rattle.sparql_trees.specs.declared.expression.Expression.{Expression}
use Rattle.sparql_trees.specs.declared.pattern.Member.{Member}
use Rattle.sparql_trees.specs.declared.pattern.Pattern.{Pattern}
use Rattle.sparql_trees.specs.declared.pattern.VarOrIri.{VarOrIri}
use Rattle.sparql_trees.specs.declared.pattern.VarOrIri.TheVariants as v
use Rattle.sparql_values.specs.Mapping.{Variables, Mapping, value_of, single, compatible}
use Rattle.sparql_algebra.specs.Algebra.{Algebra, graph, join, Element, joined, optional, removed, empty_pattern, filtered, extended, element, group_of, translation}
use Rattle.sparql_algebra.specs.Bags.{SameBag}
use Rattle.sparql_algebra.specs.Listing.{Listing, Lists}
use Rattle.sparql_algebra.specs.Solutions.{merges, joins, satisfies, solutions}
use Rattle.sparql_algebra.specs.Under.{names_left, reads, under}
use Rattle.sparql_algebra.proofs.CallerLemmas.{and_left, and_right, has_length, SameBag-refl, SameBag-filter, SameBag-flat_map, SameBag-joins, active_unread, joins_commute, joins_associate, solutions_length, single_length, variable_under, translation-is}
use Rattle.sparql_solve.specs.Members.{AreSolutions}
use Rattle.sparql_solve.specs.Under.{all_made, is_apart, is_wide, made, under_name, AreMade, AreUnder}
use Rattle.sparql_solve.proofs.AskLemmas.{all_made_bag, after_wide}
use Rattle.sparql_solve.proofs.FollowLemmas as follow
use Rattle.sparql_solve.proofs.MemberLemmas.{none_left}
use Rattle.sparql_solve.proofs.SideLemmas.{same_all}

-- ---- members after rows

-- What the loop knows of the members and rows that are left: these make of them what all members make of all rows.
pub record Follows (vs : Variables) (d : Listing) (g : GraphName) (a : Mapping) (all ms : List Member) (start rows : List Mapping) : Type 0 where
  pub wide : list_all (is_wide vs) rows ≡ true
  pub same : SameBag (all_made vs d g a (map element ms) rows) (all_made vs d g a (map element all) start)

module _ (vs : Variables) (s : State) (g : GraphName) (a : Mapping) where
  pub follows_all : (d : Listing) (ms : List Member) (rows : List Mapping) → list_all (is_wide vs) rows ≡ true → Follows vs d g a ms ms rows rows
  follows_all d ms rows w = record { wide = w; same = SameBag-refl (all_made vs d g a (map element ms) rows) }

  pub follows_next : (all ms : List Member) (i : ℕ) (x : Member) (start rows out : List Mapping) → i < length ms → x ≡ get_or ms i x → AreMade vs s g a (element x) rows out →
      (d : Listing) → Lists s d → length a ≡ length vs → Follows vs d g a all (drop i ms) start rows → Follows vs d g a all (drop (i + 1) ms) start out
  follows_next all ms i x start rows out lt here r d l ea h =
      let rest : List Member = drop (i + 1) ms in
      let next : drop i ms ≡ x ∷ rest = drop_more ms i x lt ∙ ap (λ (y : Member). y ∷ rest) (sym here) in
      record {
        wide = after_wide vs s g a d l ea (element x) rows out h.wide r;
        same = λ f.
            all_made_bag vs d g a (map element rest) out (flat_map (made vs d g a (element x)) rows) (r ea h.wide d l) f
            ∙ ap (λ (ys : List Member). sum_by f (all_made vs d g a (map element ys) rows)) (sym next) ∙ h.same f;
      }

  pub all_followed : (all ms : List Member) (i : ℕ) (start rows : List Mapping) → length ms ≤ i → (d : Listing) → Follows vs d g a all (drop i ms) start rows →
      SameBag rows (all_made vs d g a (map element all) start)
  all_followed all ms i start rows le d h f =
      ap (λ (ys : List Member). sum_by f (all_made vs d g a (map element ys) rows)) (sym (drop_all i ms le)) ∙ h.same f

-- ---- members at the end

module _ {X : Type 0} (q : X → Bool) where
  pub apart_more : (xs : List X) (i j : ℕ) (x : X) → i + 1 ≡ j → i < length xs → x ≡ get_or xs i x → q x ≡ true → list_all q (drop j xs) ≡ true →
      list_all q (drop i xs) ≡ true
  apart_more xs i j x e lt here h k =
      ap (list_all q) (drop_more xs i x lt ∙ ap (λ (y : X). y ∷ drop (i + 1) xs) (sym here))
      ∙ ap (λ b. b && list_all q (drop (i + 1) xs)) h ∙ ap (λ n. list_all q (drop n xs)) e ∙ k

  pub apart_none : (xs : List X) (i : ℕ) → length xs ≤ i → list_all q (drop i xs) ≡ true
  apart_none xs i le = ap (list_all q) (drop_all i xs le)

-- ---- GRAPH

module _ (vs : Variables) (d : Listing) (x : List ℕ) where
  joins_flat : {X : Type 0} (F : X → List Mapping) (xs : List X) (C : List Mapping) → joins (flat_map F xs) C ≡ flat_map (λ y. joins (F y) C) xs
  joins_flat F [] C = refl
  joins_flat F (y ∷ xs) C =
      flat_map-append (merges C) (F y) (flat_map F xs) ∙ ap (λ (ms : List Mapping). joins (F y) C ++ ms) (joins_flat F xs C)

  named : Term → Algebra → List Mapping
  named n A = solutions vs d (Named n) A

  one : Term → List Mapping
  one n = single vs x n ∷ []

  one_length : (n : Term) → list_all (has_length (length vs)) (single vs x n ∷ []) ≡ true
  one_length n = ap (λ b. b && true) (single_length vs x n)

  -- joined before the name or behind it
  turned : (h : GraphName) (G B : Algebra) → reads B ≡ false → (n : Term) →
      SameBag (joins (joins (solutions vs d (Named n) G) (single vs x n ∷ [])) (solutions vs d h B))
      (joins (joins (solutions vs d (Named n) G) (solutions vs d (Named n) B)) (single vs x n ∷ []))
  turned h G B e n f =
      let P : List Mapping = solutions vs d (Named n) G in
      let Z : List Mapping = single vs x n ∷ [] in
      let Y : List Mapping = solutions vs d h B in
      let W : List Mapping = solutions vs d (Named n) B in
      joins_associate (length vs) P Z Y (solutions_length vs d (Named n) G) (one_length n) (solutions_length vs d h B) f
      ∙ SameBag-joins P P (joins Z Y) (joins W Z) (SameBag-refl P)
      (λ f2. joins_commute Z Y f2 ∙ SameBag-joins Y W Z Z (active_unread vs d h (Named n) B e) (SameBag-refl Z) f2) f
      ∙ sym (joins_associate (length vs) P W Z (solutions_length vs d (Named n) G) (solutions_length vs d (Named n) B) (one_length n) f)

  -- what doesn't see the active graph may be joined in GRAPH or to it
  joined_apart : (h : GraphName) (G B : Algebra) → reads B ≡ false →
      SameBag (solutions vs d h (join (graph (v.Variable x) G) B)) (solutions vs d h (graph (v.Variable x) (join G B)))
  joined_apart h G B e f =
      ap (sum_by f) (joins_flat (λ n. joins (solutions vs d (Named n) G) (single vs x n ∷ [])) d.names (solutions vs d h B))
      ∙ SameBag-flat_map (λ n. joins (joins (solutions vs d (Named n) G) (single vs x n ∷ [])) (solutions vs d h B))
      (λ n. joins (joins (solutions vs d (Named n) G) (solutions vs d (Named n) B)) (single vs x n ∷ [])) d.names d.names (SameBag-refl d.names)
      (turned h G B e) f

not_true : (b : Bool) → not b ≡ true → b ≡ false
not_true true h = cc
not_true false h = refl

module _ (vs : Variables) (s : State) (d : Listing) (x : List ℕ) (a : Mapping) (ea : length a ≡ length vs) (h : GraphName) where
  all_apart : (ms : List Member) (G : Algebra) → list_all (λ m. is_apart (element m)) ms ≡ true →
      SameBag (all_made vs d h a (map element ms) (under vs d h (graph (v.Variable x) G) a)) (under vs d h (graph (v.Variable x) (fold extended G (map element ms))) a)
  all_apart [] G w = SameBag-refl (under vs d h (graph (v.Variable x) G) a)
  all_apart (m ∷ ms) G w =
      by_kind (element m) (and_left (is_apart (element m)) _ w)
      (λ K. all_apart ms K (and_right (is_apart (element m)) _ w))
    where
      by_kind : (k : Element) → is_apart k ≡ true →
          ((K : Algebra) → SameBag (all_made vs d h a (map element ms) (under vs d h (graph (v.Variable x) K) a))
          (under vs d h (graph (v.Variable x) (fold extended K (map element ms))) a)) →
          SameBag (all_made vs d h a (map element ms) (flat_map (made vs d h a k) (under vs d h (graph (v.Variable x) G) a)))
          (under vs d h (graph (v.Variable x) (fold extended (extended G k) (map element ms))) a)
      by_kind (optional F A) e r = cc
      by_kind (removed A) e r = cc
      by_kind (joined B) e r = λ f.
          all_made_bag vs d h a (map element ms) (flat_map (made vs d h a (joined B)) (under vs d h (graph (v.Variable x) G) a))
          (under vs d h (graph (v.Variable x) (join G B)) a)
          (λ f2. ap (sum_by f2) (follow.extended_made vs s d h (graph (v.Variable x) G) a (joined B) ea)
          ∙ SameBag-filter (compatible a) (solutions vs d h (join (graph (v.Variable x) G) B)) (solutions vs d h (graph (v.Variable x) (join G B)))
          (joined_apart vs d x h G B (not_true (reads B) e)) f2) f
          ∙ r (join G B) f

fold_append : (G : Algebra) (ks js : List Element) → fold extended G (ks ++ js) ≡ fold extended (fold extended G ks) js
fold_append G [] js = refl
fold_append G (k ∷ ks) js = fold_append (extended G k) ks js

module _ (vs : Variables) (s : State) where
  pub so_many : (g : GraphName) (a : Mapping) (ms : List Member) (i n : ℕ) (out : List Mapping) → i ≡ n →
      AreUnder vs s a out (λ d. solutions vs d g (group_of (map element (take i ms)))) → AreUnder vs s a out (λ d. solutions vs d g (group_of (map element (take n ms))))
  so_many g a ms i n out e h = subst (λ (k : ℕ). AreUnder vs s a out (λ d. solutions vs d g (group_of (map element (take k ms))))) e h

  pub all_members : (g : GraphName) (a : Mapping) (ms : List Member) (n : ℕ) (out : List Mapping) → length ms ≡ n →
      AreUnder vs s a out (λ d. solutions vs d g (group_of (map element (take n ms)))) → AreUnder vs s a out (λ d. solutions vs d g (group_of (map element ms)))
  all_members g a ms n out e h =
      let le : length ms ≤ n = omega (arith, e) in
      subst (λ (ys : List Member). AreUnder vs s a out (λ d. solutions vs d g (group_of (map element ys)))) (take_all n ms le) h

  -- a group in each graph
  pub filtered_group : (g : GraphName) (a : Mapping) (ms : List Member) (F : List Expression) (rows out : List Mapping) →
      AreUnder vs s a rows (λ d. solutions vs d g (group_of (map element ms))) → out ≡ filter (satisfies vs F) rows →
      AreUnder vs s a out (λ d. solutions vs d g (filtered F (group_of (map element ms))))
  filtered_group g a ms F rows out h e =
      let p : Pattern = record { members = ms; filters = F } in
      subst (λ A. AreUnder vs s a out (λ d. solutions vs d g A)) (translation-is p) (follow.group_follows vs s g a p ms F rows out refl refl h e)

  pub each_follows : (x : List ℕ) (p : Pattern) (a : Mapping) (names given : List Term) (ms : List Member) (n : ℕ) (F : List Expression) (out : List Mapping) → length ms ≡ n →
      ms ≡ p.members → F ≡ p.filters →
      ((d : Listing) → Lists s d → SameBag names (names_left d.names (value_of vs a x))) → given ≡ names →
      (length a ≡ length vs → AreSolutions s out (λ d. flat_map (under_name vs d x (filtered F (group_of (map element (take n ms)))) a) given)) →
      (active : GraphName) → AreUnder vs s a out (λ d. solutions vs d active (graph (v.Variable x) (translation p)))
  each_follows x p a names given ms n F out en em ef hn eg r =
      let le : length ms ≤ n = omega (arith, en) in
      let is : filtered F (group_of (map element (take n ms))) ≡ translation p =
      ap (λ (ys : List Member). filtered F (group_of (map element ys))) (take_all n ms le)
      ∙ ap (λ (E : List Expression). filtered E (group_of (map element ms))) ef ∙ ap (λ (ys : List Member). filtered p.filters (group_of (map element ys))) em
      ∙ sym (translation-is p) in
      follow.variable_follows vs s (v.Variable x) x p a names given out refl hn eg
      (subst (λ A. length a ≡ length vs → AreSolutions s out (λ d. flat_map (under_name vs d x A a) given)) is r)

  pub named_so : (name : VarOrIri) (x : List ℕ) (p : Pattern) (a : Mapping) (out : List Mapping) → name ≡ v.Variable x →
      ((active : GraphName) → AreUnder vs s a out (λ d. solutions vs d active (graph (v.Variable x) (translation p)))) →
      (active : GraphName) → AreUnder vs s a out (λ d. solutions vs d active (graph name (translation p)))
  named_so name x p a out en h active =
      subst (λ (w : VarOrIri). AreUnder vs s a out (λ d. solutions vs d active (graph w (translation p)))) (sym en) (h active)

  -- the members at the end, after the others in each graph
  pub apart_follows : (x : List ℕ) (p : Pattern) (a : Mapping) (names given : List Term) (ms first : List Member) (F : List Expression) (n : ℕ)
      (h : GraphName) (rows out : List Mapping) → ms ≡ p.members → F ≡ p.filters → length F ≡ 0 → first ≡ take n ms →
      ((d : Listing) → Lists s d → SameBag names (names_left d.names (value_of vs a x))) → given ≡ names →
      list_all (λ m. is_apart (element m)) (drop n ms) ≡ true →
      (length a ≡ length vs → AreSolutions s rows (λ d. flat_map (under_name vs d x (filtered F (group_of (map element first))) a) given)) →
      ((d : Listing) → Lists s d → length a ≡ length vs → list_all (is_wide vs) rows ≡ true → SameBag out (all_made vs d h a (map element (drop n ms)) rows)) →
      (active : GraphName) → AreUnder vs s a out (λ d. solutions vs d active (graph (v.Variable x) (translation p)))
  apart_follows x p a names given ms first F n h rows out em ef e0 ei hn eg w r k active ea d l f =
      let none : F ≡ [] = none_left F e0 in
      let G : Algebra = group_of (map element first) in
      let left : List Term = names_left d.names (value_of vs a x) in
      let bag : SameBag rows (under vs d h (graph (v.Variable x) G) a) = λ f2.
      r ea d l f2
      ∙ ap (λ (E : List Expression). sum_by f2 (flat_map (under_name vs d x (filtered E G) a) given)) none
      ∙ ap (λ (ns : List Term). sum_by f2 (flat_map (under_name vs d x G a) ns)) eg
      ∙ SameBag-flat_map (under_name vs d x G a) (under_name vs d x G a) names left (hn d l) (λ m. SameBag-refl (under_name vs d x G a m)) f2
      ∙ ap (sum_by f2) (sym (variable_under vs d h x G a ea)) in
      let wide : list_all (is_wide vs) rows ≡ true =
      same_all (is_wide vs) rows (under vs d h (graph (v.Variable x) G) a) bag (follow.under_wide vs s d h (graph (v.Variable x) G) a) in
      let whole : fold extended G (map element (drop n ms)) ≡ group_of (map element p.members) =
      ap (λ (ys : List Member). fold extended (group_of (map element ys)) (map element (drop n ms))) ei
      ∙ sym (fold_append empty_pattern (map element (take n ms)) (map element (drop n ms)))
      ∙ ap group_of (sym (map-append element (take n ms) (drop n ms)) ∙ ap (map element) (take-append-drop n ms ∙ em)) in
      let last : group_of (map element p.members) ≡ translation p =
      sym (ap (λ (E : List Expression). filtered E (group_of (map element p.members))) (sym ef ∙ none)) ∙ sym (translation-is p) in
      k d l ea wide f
      ∙ all_made_bag vs d h a (map element (drop n ms)) rows (under vs d h (graph (v.Variable x) G) a) bag f
      ∙ all_apart vs s d x a ea h (drop n ms) G w f
      ∙ ap (λ A. sum_by f (under vs d active (graph (v.Variable x) A) a)) (whole ∙ last)
