-- Each operator under a mapping is made of its parts under mappings.
use Rattle.std.proofs.Common.{◌≡◌, ℕ, ◌+◌, zero, suc, arith, Bool, true, false, cond, not, ◌&&◌, ◌||◌, List, [], ◌∷◌, ◌++◌, map, filter, Option, Some, None, refl, sym, ap, ◌∙◌, length, take, is_some}
use Rattle.std.specs.Prelude.{slice_set, replicate}
use Rattle.std.specs.List.{flat_map, list_all, list_any, sum_by}
use Rattle.std.proofs.lemmas.List.Sums.{sum_by-append}
use Rattle.std.proofs.lemmas.Bool.{eq-eqb}
use Rattle.rdf_terms.specs.Quad.{QuadParts}
use Rattle.rdf_terms.specs.declared.term.Term.{Term}
use Rattle.rdf_terms.specs.declared.term.Term.TheVariants as t
use Rattle.rdf_terms.specs.declared.quad.GraphName.{GraphName}
use Rattle.rdf_terms.specs.declared.quad.GraphName.TheVariants.{Named}
use Rattle.sparql_trees.specs.declared.pattern.BasicGraphPattern.{BasicGraphPattern}
use Rattle.sparql_trees.specs.declared.pattern.TriplePattern.{TriplePattern}
use Rattle.sparql_trees.specs.declared.pattern.VarOrIri.TheVariants as v
use Rattle.sparql_algebra.specs.Algebra as algebra
use Rattle.sparql_algebra.specs.Algebra.{Algebra, basic, join, left_join, union, minus, graph}
use Rattle.sparql_values.specs.Mapping.{Variables, Mapping, same_term, column, value_at, value_in, value_of, set_in, empty_mapping, single, agrees, first_of, compatible, merge}
use Rattle.sparql_algebra.specs.Bags.{SameBag}
use Rattle.sparql_algebra.specs.Listing.{Listing}
use Rattle.sparql_algebra.specs.Solutions.{is_at, same_bool, binds_exactly, occurs, instance_lies, solves, terms_of, all_mappings, assignments, basic_solutions, merges, joins, or_alone, left_joins, shares, left_by, satisfies, solutions}
use Rattle.sparql_algebra.specs.Under.{agreeing, MinusUnder, MinusUnderLeft, MinusAlone, cut, names_left, AllUnderNothing, BasicUnder, UnionUnder, JoinUnder, LeftJoinUnder, JoinAlone, LeftJoinAlone, FilterUnder, NamedUnder, VariableUnder, GraphSetsActive, sees, UnderSeen, stands_any, is_positive, reads, ActiveUnread}
use Rattle.sparql_algebra.proofs.TruthLemmas.{and_false, and_true, and_left, and_right, or_left, or_right}
use Rattle.sparql_algebra.proofs.TermLemmas.{same_term_is}
use Rattle.sparql_algebra.proofs.UniverseLemmas.{has_length}
use Rattle.sparql_algebra.proofs.FilterLemmas.{filter_always, filter-cong, filter-filter, filter-append}
use Rattle.sparql_algebra.proofs.LengthLemmas.{length_to, all_append, all_filter, all_cond, all_map, all_flat_map, single_length, solutions_length}
use Rattle.sparql_algebra.proofs.BagLemmas.{SameBag-filter, SameBag-joins, SameBag-left_joins}
use Rattle.sparql_algebra.proofs.MinusLemmas.{SameBag-minuses}
use Rattle.sparql_algebra.proofs.JoinLemmas.{compatible_turn, merge_turn, compatible_three, compatible_empty, empty_solutions}

-- ---- lists

module _ {X : Type 0} where
  pub filter_where : (w p q : X → Bool) → ((x : X) → w x ≡ true → p x ≡ q x) → (xs : List X) → list_all w xs ≡ true → filter p xs ≡ filter q xs
  filter_where w p q e [] h = refl
  filter_where w p q e (x ∷ xs) h =
      ap (λ b. cond b (x ∷ filter p xs) (filter p xs)) (e x (and_left (w x) _ h))
      ∙ ap (λ (l : List X). cond (q x) (x ∷ l) l) (filter_where w p q e xs (and_right (w x) _ h))

  filter_never : (xs : List X) → filter (λ (_ : X). false) xs ≡ []
  filter_never [] = refl
  filter_never (x ∷ xs) = filter_never xs

  -- one test after another, in either order
  pub filter_turn : (p q : X → Bool) (xs : List X) → filter q (filter p xs) ≡ filter p (filter q xs)
  filter_turn p q xs = filter-filter p q xs ∙ filter-cong (λ x. p x && q x) (λ x. q x && p x) (λ x. turned (p x) (q x)) xs ∙ sym (filter-filter q p xs)
    where
      turned : (a b : Bool) → (a && b) ≡ (b && a)
      turned true b = sym (and_true b)
      turned false b = sym (and_false b)

  pub filter_again : (p : X → Bool) (xs : List X) → filter p (filter p xs) ≡ filter p xs
  filter_again p xs = filter-filter p p xs ∙ filter-cong (λ x. p x && p x) p (λ x. both (p x)) xs
    where
      both : (b : Bool) → (b && b) ≡ b
      both true = refl
      both false = refl

  pub filter_cond : (p : X → Bool) (b : Bool) (xs : List X) → filter p (cond b xs []) ≡ cond b (filter p xs) []
  filter_cond p true xs = refl
  filter_cond p false xs = refl

module _ {X Y : Type 0} where
  filter_map : (p : Y → Bool) (h : X → Y) (xs : List X) → filter p (map h xs) ≡ map h (filter (λ x. p (h x)) xs)
  filter_map p h [] = refl
  filter_map p h (x ∷ xs) = by_test (p (h x)) (filter_map p h xs)
    where
      by_test : (b : Bool) → filter p (map h xs) ≡ map h (filter (λ x. p (h x)) xs) →
          cond b (h x ∷ filter p (map h xs)) (filter p (map h xs)) ≡ map h (cond b (x ∷ filter (λ x. p (h x)) xs) (filter (λ x. p (h x)) xs))
      by_test true e = ap (λ (l : List Y). h x ∷ l) e
      by_test false e = e

  pub filter_flat_map : (p : Y → Bool) (h : X → List Y) (xs : List X) → filter p (flat_map h xs) ≡ flat_map (λ x. filter p (h x)) xs
  filter_flat_map p h [] = refl
  filter_flat_map p h (x ∷ xs) = filter-append p (h x) (flat_map h xs) ∙ ap (λ (l : List Y). filter p (h x) ++ l) (filter_flat_map p h xs)

  -- those that give nothing may be left out
  flat_where : (w q : X → Bool) (h k : X → List Y) → ((x : X) → w x ≡ true → h x ≡ cond (q x) (k x) []) → (xs : List X) → list_all w xs ≡ true →
      flat_map h xs ≡ flat_map k (filter q xs)
  flat_where w q h k e [] l = refl
  flat_where w q h k e (x ∷ xs) l =
      ap (λ (ys : List Y). ys ++ flat_map h xs) (e x (and_left (w x) _ l)) ∙ by_test (q x) (flat_where w q h k e xs (and_right (w x) _ l))
    where
      by_test : (b : Bool) → flat_map h xs ≡ flat_map k (filter q xs) → cond b (k x) [] ++ flat_map h xs ≡ flat_map k (cond b (x ∷ filter q xs) (filter q xs))
      by_test true r = ap (λ (ys : List Y). k x ++ ys) r
      by_test false r = r

  flat_ones : (h : X → Y) (xs : List X) → flat_map (λ x. h x ∷ []) xs ≡ map h xs
  flat_ones h [] = refl
  flat_ones h (x ∷ xs) = ap (λ (l : List Y). h x ∷ l) (flat_ones h xs)

all_any : {X : Type 0} (xs : List X) → list_all (λ (x : X). true) xs ≡ true
all_any [] = refl
all_any (x ∷ xs) = all_any xs

-- ---- the right side under the left

pub joins_under : (B : List Mapping) (a : Mapping) → joins (a ∷ []) B ≡ joins (a ∷ []) (agreeing B a)
joins_under B a = ap (λ (l : List Mapping). map (merge a) l ++ []) (sym (filter_again (compatible a) B))

pub left_joins_under : (F : Mapping → Bool) (B : List Mapping) (a : Mapping) → left_joins (a ∷ []) B F ≡ left_joins (a ∷ []) (agreeing B a) F
left_joins_under F B a = ap (λ (l : List Mapping). or_alone a (filter F (map (merge a) l)) ++ []) (sym (filter_again (compatible a) B))

-- ---- what is taken away

pub any_filtered : {X : Type 0} (p q : X → Bool) (xs : List X) → list_any q (filter p xs) ≡ list_any (λ x. p x && q x) xs
any_filtered p q [] = refl
any_filtered p q (x ∷ xs) = by_test (p x) (any_filtered p q xs)
  where
    by_test : (b : Bool) → list_any q (filter p xs) ≡ list_any (λ y. p y && q y) xs →
        list_any q (cond b (x ∷ filter p xs) (filter p xs)) ≡ ((b && q x) || list_any (λ y. p y && q y) xs)
    by_test true e = ap (λ b. q x || b) e
    by_test false e = e

pub minus_under : MinusUnder
minus_under test A B a =
    filter_turn (left_by test B) (compatible a) A
    ∙ filter-cong (left_by test B) (λ x. left_by test (agreeing B x) x)
    (λ x. ap not (
    any_cong x ∙ sym (any_filtered (compatible x) (λ y. compatible x y && test x y) B))) (agreeing A a)
  where
    again : (b c : Bool) → (b && c) ≡ (b && (b && c))
    again true c = refl
    again false c = refl

    any_same : {X : Type 0} (p q : X → Bool) → ((x : X) → p x ≡ q x) → (xs : List X) → list_any p xs ≡ list_any q xs
    any_same p q e [] = refl
    any_same p q e (y ∷ ys) = ap (λ b. b || list_any p ys) (e y) ∙ ap (λ b. q y || b) (any_same p q e ys)

    any_cong : (x : Mapping) → list_any (λ y. compatible x y && test x y) B ≡ list_any (λ y. compatible x y && (compatible x y && test x y)) B
    any_cong x = any_same (λ y. compatible x y && test x y) (λ y. compatible x y && (compatible x y && test x y)) (λ y. again (compatible x y) (test x y)) B

-- ---- Join

module _ (n : ℕ) (a : Mapping) (ha : has_length n a ≡ true) where
  -- those merges that are compatible with the mapping
  merges_under : (B : List Mapping) → list_all (has_length n) B ≡ true → (x : Mapping) → has_length n x ≡ true →
      agreeing (merges B x) a ≡ cond (compatible a x) (map (merge x) (agreeing B (merge a x))) []
  merges_under B hb x hx =
      filter_map (compatible a) (merge x) (filter (compatible x) B)
      ∙ ap (map (merge x)) (
      filter-filter (compatible x) (λ y. compatible a (merge x y)) B
      ∙ filter_where (has_length n) (λ y. compatible x y && compatible a (merge x y)) (λ y. compatible a x && compatible (merge a x) y)
      (λ y hy. sym (compatible_three n a x y ha hx hy)) B hb)
      ∙ by_test (compatible a x)
    where
      by_test : (b : Bool) → map (merge x) (filter (λ y. b && compatible (merge a x) y) B) ≡ cond b (map (merge x) (agreeing B (merge a x))) []
      by_test true = refl
      by_test false = ap (map (merge x)) (filter_never B)

  pub join_under : (A B : List Mapping) → list_all (has_length n) A ≡ true → list_all (has_length n) B ≡ true →
      agreeing (joins A B) a ≡ flat_map (λ x. map (merge x) (agreeing B (merge a x))) (agreeing A a)
  join_under A B h k =
      filter_flat_map (compatible a) (merges B) A
      ∙ flat_where (has_length n) (compatible a) (λ x. agreeing (merges B x) a) (λ x. map (merge x) (agreeing B (merge a x))) (merges_under B k) A h

  -- the right side found alone
  pub join_alone : (A B : List Mapping) → list_all (has_length n) A ≡ true → list_all (has_length n) B ≡ true →
      agreeing (joins A B) a ≡ agreeing (joins (agreeing A a) B) a
  join_alone A B h k =
      filter_flat_map (compatible a) (merges B) A
      ∙ flat_where (has_length n) (compatible a) (λ x. agreeing (merges B x) a) (λ x. agreeing (merges B x) a) (λ x hx. by_test x hx (compatible a x) refl) A h
      ∙ sym (filter_flat_map (compatible a) (merges B) (agreeing A a))
    where
      by_test : (x : Mapping) → has_length n x ≡ true → (b : Bool) → compatible a x ≡ b → agreeing (merges B x) a ≡ cond b (agreeing (merges B x) a) []
      by_test x hx true e = refl
      by_test x hx false e = merges_under B k x hx ∙ ap (λ b. cond b (map (merge x) (agreeing B (merge a x))) []) e

  -- ---- LeftJoin

  alone_under : (p : Mapping → Bool) (x : Mapping) (ms : List Mapping) → p x ≡ false → filter p ms ≡ [] → filter p (or_alone x ms) ≡ []
  alone_under p x [] e r = ap (λ b. cond b (x ∷ []) []) e
  alone_under p x (m ∷ ms) e r = r

  abbrev one_left : (Mapping → Bool) → List Mapping → Mapping → List Mapping
  one_left F B x = or_alone x (filter F (merges B x))

  pub left_join_under : (F : Mapping → Bool) (A B : List Mapping) → list_all (has_length n) A ≡ true → list_all (has_length n) B ≡ true →
      agreeing (left_joins A B F) a ≡ flat_map (λ x. agreeing (or_alone x (filter F (map (merge x) (agreeing B x)))) a) (agreeing A a)
  left_join_under F A B h k =
      filter_flat_map (compatible a) (one_left F B) A
      ∙ flat_where (has_length n) (compatible a) (λ x. agreeing (one_left F B x) a) (λ x. agreeing (one_left F B x) a) (λ x hx. by_test x hx (compatible a x) refl) A h
    where
      by_test : (x : Mapping) → has_length n x ≡ true → (b : Bool) → compatible a x ≡ b → agreeing (one_left F B x) a ≡ cond b (agreeing (one_left F B x) a) []
      by_test x hx true e = refl
      by_test x hx false e =
          let none : agreeing (merges B x) a ≡ [] = merges_under B k x hx ∙ ap (λ b. cond b (map (merge x) (agreeing B (merge a x))) []) e in
          alone_under (compatible a) x (filter F (merges B x)) e (filter_turn F (compatible a) (merges B x) ∙ ap (filter F) none)

  pub left_join_alone : (F : Mapping → Bool) (A B : List Mapping) → list_all (has_length n) A ≡ true → list_all (has_length n) B ≡ true →
      agreeing (left_joins A B F) a ≡ agreeing (left_joins (agreeing A a) B F) a
  left_join_alone F A B h k = left_join_under F A B h k ∙ sym (filter_flat_map (compatible a) (one_left F B) (agreeing A a))

  -- ---- a mapping joined last

  -- whichever of the two comes first
  three_turned : (s x : Mapping) → has_length n s ≡ true → has_length n x ≡ true →
      (compatible x s && compatible a (merge x s)) ≡ (compatible a s && compatible (merge a s) x)
  three_turned s x hs hx = by_test (compatible x s) refl ∙ sym (compatible_three n a s x ha hs hx)
    where
      by_test : (b : Bool) → compatible x s ≡ b → (b && compatible a (merge x s)) ≡ (compatible s x && compatible a (merge s x))
      by_test true e =
          ap (compatible a) (merge_turn x s e) ∙ ap (λ b. b && compatible a (merge s x)) (sym (compatible_turn s x ∙ e))
      by_test false e = ap (λ b. b && compatible a (merge s x)) (sym (compatible_turn s x ∙ e))

  last_under : (s : Mapping) → has_length n s ≡ true → (x : Mapping) → has_length n x ≡ true →
      agreeing (merges (s ∷ []) x) a ≡ cond (compatible a s && compatible (merge a s) x) (merge x s ∷ []) []
  last_under s hs x hx = by_test (compatible x s) ∙ ap (λ b. cond b (merge x s ∷ []) []) (three_turned s x hs hx)
    where
      by_test : (b : Bool) → agreeing (map (merge x) (cond b (s ∷ []) [])) a ≡ cond (b && compatible a (merge x s)) (merge x s ∷ []) []
      by_test true = refl
      by_test false = refl

  pub bound_under : (A : List Mapping) (s : Mapping) → list_all (has_length n) A ≡ true → has_length n s ≡ true →
      agreeing (joins A (s ∷ [])) a ≡ cond (compatible a s) (map (λ x. merge x s) (agreeing A (merge a s))) []
  bound_under A s h hs =
      filter_flat_map (compatible a) (merges (s ∷ [])) A
      ∙ flat_where (has_length n) (λ x. compatible a s && compatible (merge a s) x) (λ x. agreeing (merges (s ∷ []) x) a) (λ x. merge x s ∷ [])
      (last_under s hs) A h
      ∙ flat_ones (λ x. merge x s) (filter (λ x. compatible a s && compatible (merge a s) x) A)
      ∙ by_test (compatible a s)
    where
      by_test : (b : Bool) → map (λ x. merge x s) (filter (λ x. b && compatible (merge a s) x) A) ≡ cond b (map (λ x. merge x s) (agreeing A (merge a s))) []
      by_test true = refl
      by_test false = ap (map (λ x. merge x s)) (filter_never A)

-- ---- GRAPH with a variable

set_agrees : (m : Mapping) (k c : ℕ) (n : Term) → length m ≡ k → compatible m (slice_set (replicate k None) c (Some n)) ≡ agrees (value_at m c, Some n)
set_agrees [] k zero n e = refl
set_agrees [] k (suc c) n e = refl
set_agrees (x ∷ m) zero c n e = absurd (omega arith)
set_agrees (x ∷ m) (suc k) zero n e =
    ap (λ b. agrees (x, Some n) && b) (compatible_turn m (replicate k None) ∙ compatible_empty k m) ∙ and_true (agrees (x, Some n))
set_agrees (None ∷ m) (suc k) (suc c) n e = set_agrees m k c n (omega arith)
set_agrees (Some y ∷ m) (suc k) (suc c) n e = set_agrees m k c n (omega arith)

pub bound_agrees : (vs : Variables) (m : Mapping) (name : List ℕ) (n : Term) → length m ≡ length vs →
    compatible m (single vs name n) ≡ agrees (value_of vs m name, Some n)
bound_agrees vs m name n e = at (column vs name)
  where
    at : (o : Option ℕ) → compatible m (set_in (empty_mapping vs) o n) ≡ agrees (value_in m o, Some n)
    at (Some c) = set_agrees m (length vs) c n e
    at None = compatible_turn m (empty_mapping vs) ∙ compatible_empty (length vs) m

pub over_names_under : (vs : Variables) (name : List ℕ) (S : Term → List Mapping) → ((n : Term) → list_all (has_length (length vs)) (S n) ≡ true) →
    (names : List Term) (a : Mapping) → length a ≡ length vs →
    agreeing (flat_map (λ n. joins (S n) (single vs name n ∷ [])) names) a
    ≡ flat_map (λ n. map (λ x. merge x (single vs name n)) (agreeing (S n) (merge a (single vs name n)))) (names_left names (value_of vs a name))
over_names_under vs name S h names a e =
    filter_flat_map (compatible a) (λ n. joins (S n) (single vs name n ∷ [])) names
    ∙ flat_where (λ n. true) (λ n. agrees (value_of vs a name, Some n)) (λ n. agreeing (joins (S n) (single vs name n ∷ [])) a)
    (λ n. map (λ x. merge x (single vs name n)) (agreeing (S n) (merge a (single vs name n))))
    (λ n _. bound_under (length vs) a (length_to (length vs) a e) (S n) (single vs name n) (h n) (single_length vs name n)
    ∙ ap (λ b. cond b (map (λ x. merge x (single vs name n)) (agreeing (S n) (merge a (single vs name n)))) []) (bound_agrees vs a name n e))
    names (all_any names)

-- names that the mapping's value rules out may be left out first
pub names_kept : (vs : Variables) (name : List ℕ) (S : Term → List Mapping) → ((n : Term) → list_all (has_length (length vs)) (S n) ≡ true) →
    (names : List Term) (a : Mapping) → length a ≡ length vs →
    agreeing (flat_map (λ n. joins (S n) (single vs name n ∷ [])) names) a
    ≡ agreeing (flat_map (λ n. joins (S n) (single vs name n ∷ [])) (names_left names (value_of vs a name))) a
names_kept vs name S h names a e =
    let left : List Term = names_left names (value_of vs a name) in
    over_names_under vs name S h names a e
    ∙ ap (flat_map (λ n. map (λ x. merge x (single vs name n)) (agreeing (S n) (merge a (single vs name n)))))
    (sym (filter_again (λ n. agrees (value_of vs a name, Some n)) names))
    ∙ sym (over_names_under vs name S h left a e)

-- ---- basic graph patterns

cut_head : (x y : Option Term) (b : Bool) → same_bool (is_some y) b ≡ true → agrees (x, y) ≡ true → cond b (first_of (x, y)) None ≡ y
cut_head (Some u) (Some t) true h k = ap Some (same_term_is u t k)
cut_head None (Some t) true h k = refl
cut_head x (Some t) false h k = cc
cut_head x None true h k = cc
cut_head x None false h k = refl

-- a mapping that binds just these columns is left of a merge with it
cut_merge : (test : ℕ → Bool) (n : ℕ) (a s : Mapping) → has_length n a ≡ true → has_length n s ≡ true → binds_exactly test s ≡ true → compatible a s ≡ true →
    cut test (merge a s) ≡ s
cut_merge test zero [] [] h k l e = refl
cut_merge test zero [] (y ∷ s) h k l e = cc
cut_merge test zero (x ∷ a) s h k l e = cc
cut_merge test (suc n) [] s h k l e = cc
cut_merge test (suc n) (x ∷ a) [] h k l e = cc
cut_merge test (suc n) (x ∷ a) (y ∷ s) h k l e =
    let first : cond (test zero) (first_of (x, y)) None ≡ y = cut_head x y (test zero) (and_left _ _ l) (and_left _ _ e) in
    let rest : cut (λ c. test (suc c)) (merge a s) ≡ s =
    cut_merge (λ c. test (suc c)) n a s h k (and_right (same_bool (is_some y) (test zero)) _ l) (and_right (agrees (x, y)) _ e) in
    λ i. first i ∷ rest i

pub cut_merges : (test : ℕ → Bool) (n : ℕ) (a : Mapping) → has_length n a ≡ true → (S : List Mapping) → list_all (has_length n) S ≡ true →
    list_all (binds_exactly test) S ≡ true → agreeing S a ≡ map (cut test) (merges S a)
cut_merges test n a ha [] h k = refl
cut_merges test n a ha (s ∷ S) h k = by_test (compatible a s) refl (cut_merges test n a ha S (and_right (has_length n s) _ h) (and_right (binds_exactly test s) _ k))
  where
    by_test : (b : Bool) → compatible a s ≡ b → agreeing S a ≡ map (cut test) (merges S a) →
        cond b (s ∷ agreeing S a) (agreeing S a) ≡ map (cut test) (map (merge a) (cond b (s ∷ agreeing S a) (agreeing S a)))
    by_test true e r =
        let first : cut test (merge a s) ≡ s = cut_merge test n a s ha (and_left _ _ h) (and_left _ _ k) e in
        let back : s ≡ cut test (merge a s) = sym first in
        λ i. back i ∷ r i
    by_test false e r = r

exact_take : (test : ℕ → Bool) (n : ℕ) (w : Mapping) → binds_exactly test w ≡ true → binds_exactly test (take n w) ≡ true
exact_take test zero w h = refl
exact_take test (suc n) [] h = refl
exact_take test (suc n) (x ∷ w) h =
    ap (λ b. b && binds_exactly (λ c. test (suc c)) (take n w)) (and_left _ _ h)
    ∙ exact_take (λ c. test (suc c)) n w (and_right (same_bool (is_some x) (test zero)) _ h)

all_passed : {X : Type 0} (p : X → Bool) (xs : List X) → list_all p (filter p xs) ≡ true
all_passed p [] = refl
all_passed p (x ∷ xs) = by_test (p x) refl (all_passed p xs)
  where
    by_test : (b : Bool) → p x ≡ b → list_all p (filter p xs) ≡ true → list_all p (cond b (x ∷ filter p xs) (filter p xs)) ≡ true
    by_test true e r = ap (λ b. b && list_all p (filter p xs)) e ∙ r
    by_test false e r = r

pub basic_exact : (vs : Variables) (quads : List QuadParts) (b : BasicGraphPattern) → list_all (binds_exactly (occurs vs b.triples)) (basic_solutions vs quads b) ≡ true
basic_exact vs quads b =
    all_map (solves vs quads b.triples) (binds_exactly (occurs vs b.triples)) (take (length vs))
    (λ w h. exact_take (occurs vs b.triples) (length vs) w (and_right (list_all (instance_lies vs quads w) b.triples) _ h)) (assignments vs quads b)
    (all_passed (solves vs quads b.triples) (all_mappings (length vs + b.hidden) (terms_of quads)))

-- ---- the laws

module _ (vs : Variables) (d : Listing) where
  pub all_under_nothing : AllUnderNothing vs d
  all_under_nothing g P =
      filter-cong (compatible (empty_mapping vs)) (λ _. true) (compatible_empty (length vs)) (solutions vs d g P) ∙ filter_always (solutions vs d g P)

  pub basic_under : BasicUnder vs d
  basic_under g b a e =
      cut_merges (occurs vs b.triples) (length vs) a (length_to (length vs) a e) (basic_solutions vs (d.quads g) b) (solutions_length vs d g (basic b))
      (basic_exact vs (d.quads g) b)

  pub union_under : UnionUnder vs d
  union_under g A B a = filter-append (compatible a) (solutions vs d g A) (solutions vs d g B)

  pub joined_under : JoinUnder vs d
  joined_under g A B a e =
      join_under (length vs) a (length_to (length vs) a e) (solutions vs d g A) (solutions vs d g B) (solutions_length vs d g A) (solutions_length vs d g B)

  pub left_joined_under : LeftJoinUnder vs d
  left_joined_under g F A B a e =
      left_join_under (length vs) a (length_to (length vs) a e) (satisfies vs F) (solutions vs d g A) (solutions vs d g B)
      (solutions_length vs d g A) (solutions_length vs d g B)

  pub joined_alone : JoinAlone vs d
  joined_alone g A B a e =
      join_alone (length vs) a (length_to (length vs) a e) (solutions vs d g A) (solutions vs d g B) (solutions_length vs d g A) (solutions_length vs d g B)

  pub left_joined_alone : LeftJoinAlone vs d
  left_joined_alone g F A B a e =
      left_join_alone (length vs) a (length_to (length vs) a e) (satisfies vs F) (solutions vs d g A) (solutions vs d g B)
      (solutions_length vs d g A) (solutions_length vs d g B)

  pub minus_under_left : MinusUnderLeft vs d
  minus_under_left g A B a = minus_under shares (solutions vs d g A) (solutions vs d g B) a

  pub minus_alone : MinusAlone vs d
  minus_alone g A B a = filter_turn (left_by shares (solutions vs d g B)) (compatible a) (solutions vs d g A)

  pub filter_under : FilterUnder vs d
  filter_under g F A a = filter_turn (satisfies vs F) (compatible a) (solutions vs d g A)

  pub named_under : NamedUnder vs d
  named_under g iri A a = filter_cond (compatible a) (list_any (same_term (t.Iri iri)) d.names) (solutions vs d (Named (t.Iri iri)) A)

  pub variable_under : VariableUnder vs d
  variable_under g name A a e = over_names_under vs name (λ n. solutions vs d (Named n) A) (λ n. solutions_length vs d (Named n) A) d.names a e

  pub graph_sets_active : GraphSetsActive vs d
  graph_sets_active g h (v.Iri iri) A a = refl
  graph_sets_active g h (v.Variable name) A a = refl

-- ---- what a pattern sees

-- no column beside these is bound
abbrev pub binds_within : (ℕ → Bool) → Mapping → Bool
binds_within test [] = true
binds_within test (None ∷ m) = binds_within (λ c. test (suc c)) m
binds_within test (Some t ∷ m) = test zero && binds_within (λ c. test (suc c)) m

cut_agrees : (b : Bool) (y : Option Term) → agrees (cond b y None, None) ≡ agrees (y, None)
cut_agrees true y = refl
cut_agrees false (Some u) = refl
cut_agrees false None = refl

cut_compatible : (test : ℕ → Bool) (a x : Mapping) → binds_within test x ≡ true → compatible (cut test a) x ≡ compatible a x
cut_compatible test [] x h = refl
cut_compatible test (y ∷ a) [] h = refl
cut_compatible test (y ∷ a) (None ∷ x) h =
    ap (λ b. b && compatible (cut (λ c. test (suc c)) a) x) (cut_agrees (test zero) y)
    ∙ ap (λ b. agrees (y, None) && b) (cut_compatible (λ c. test (suc c)) a x h)
cut_compatible test (y ∷ a) (Some t ∷ x) h =
    ap (λ b. agrees (cond b y None, Some t) && compatible (cut (λ c. test (suc c)) a) x) (and_left (test zero) _ h)
    ∙ ap (λ b. agrees (y, Some t) && b) (cut_compatible (λ c. test (suc c)) a x (and_right (test zero) _ h))

within_more : (p q : ℕ → Bool) → ((c : ℕ) → p c ≡ true → q c ≡ true) → (m : Mapping) → binds_within p m ≡ true → binds_within q m ≡ true
within_more p q e [] h = refl
within_more p q e (None ∷ m) h = within_more (λ c. p (suc c)) (λ c. q (suc c)) (λ c. e (suc c)) m h
within_more p q e (Some t ∷ m) h =
    ap (λ b. b && binds_within (λ c. q (suc c)) m) (e zero (and_left (p zero) _ h))
    ∙ within_more (λ c. p (suc c)) (λ c. q (suc c)) (λ c. e (suc c)) m (and_right (p zero) _ h)

exact_within : (p : ℕ → Bool) (m : Mapping) → binds_exactly p m ≡ true → binds_within p m ≡ true
exact_within p [] h = refl
exact_within p (None ∷ m) h = exact_within (λ c. p (suc c)) m (and_right (same_bool false (p zero)) _ h)
exact_within p (Some t ∷ m) h =
    ap (λ b. b && binds_within (λ c. p (suc c)) m) (and_left (p zero) _ h) ∙ exact_within (λ c. p (suc c)) m (and_right (p zero) _ h)

merge_within : (q : ℕ → Bool) (a b : Mapping) → binds_within q a ≡ true → binds_within q b ≡ true → binds_within q (merge a b) ≡ true
merge_within q [] b h k = refl
merge_within q (None ∷ a) [] h k = refl
merge_within q (Some s ∷ a) [] h k = refl
merge_within q (None ∷ a) (None ∷ b) h k = merge_within (λ c. q (suc c)) a b h k
merge_within q (None ∷ a) (Some t ∷ b) h k =
    ap (λ z. z && binds_within (λ c. q (suc c)) (merge a b)) (and_left (q zero) _ k) ∙ merge_within (λ c. q (suc c)) a b h (and_right (q zero) _ k)
merge_within q (Some s ∷ a) (None ∷ b) h k =
    ap (λ z. z && binds_within (λ c. q (suc c)) (merge a b)) (and_left (q zero) _ h) ∙ merge_within (λ c. q (suc c)) a b (and_right (q zero) _ h) k
merge_within q (Some s ∷ a) (Some t ∷ b) h k =
    ap (λ z. z && binds_within (λ c. q (suc c)) (merge a b)) (and_left (q zero) _ h)
    ∙ merge_within (λ c. q (suc c)) a b (and_right (q zero) _ h) (and_right (q zero) _ k)

empty_within : (q : ℕ → Bool) (n : ℕ) → binds_within q (replicate n None) ≡ true
empty_within q zero = refl
empty_within q (suc n) = empty_within (λ c. q (suc c)) n

set_within : (q : ℕ → Bool) (n c : ℕ) (t : Term) → q c ≡ true → binds_within q (slice_set (replicate n None) c (Some t)) ≡ true
set_within q zero zero t h = refl
set_within q zero (suc c) t h = refl
set_within q (suc n) zero t h = ap (λ z. z && binds_within (λ c. q (suc c)) (replicate n None)) h ∙ empty_within (λ c. q (suc c)) n
set_within q (suc n) (suc c) t h = set_within (λ c. q (suc c)) n c t h

single_within : (q : ℕ → Bool) (vs : Variables) (name : List ℕ) (t : Term) → ((c : ℕ) → is_at c (column vs name) ≡ true → q c ≡ true) →
    binds_within q (single vs name t) ≡ true
single_within q vs name t e = at (column vs name) e
  where
    at : (o : Option ℕ) → ((c : ℕ) → is_at c o ≡ true → q c ≡ true) → binds_within q (set_in (empty_mapping vs) o t) ≡ true
    at (Some c) h = set_within q (length vs) c t (h c (eq-eqb c c refl))
    at None h = empty_within q (length vs)

merges_within : (q : ℕ → Bool) (B : List Mapping) (a : Mapping) → list_all (binds_within q) B ≡ true → binds_within q a ≡ true →
    list_all (binds_within q) (merges B a) ≡ true
merges_within q B a h k =
    all_map (binds_within q) (binds_within q) (merge a) (λ b l. merge_within q a b k l) (filter (compatible a) B) (all_filter (binds_within q) (compatible a) B h)

or_alone_within : (q : ℕ → Bool) (a : Mapping) (ms : List Mapping) → binds_within q a ≡ true → list_all (binds_within q) ms ≡ true →
    list_all (binds_within q) (or_alone a ms) ≡ true
or_alone_within q a [] h k = ap (λ b. b && true) h
or_alone_within q a (m ∷ ms) h k = k

joins_within : (q : ℕ → Bool) (A B : List Mapping) → list_all (binds_within q) A ≡ true → list_all (binds_within q) B ≡ true →
    list_all (binds_within q) (joins A B) ≡ true
joins_within q A B h k = all_flat_map (binds_within q) (binds_within q) (merges B) (λ a l. merges_within q B a k l) A h

left_joins_within : (q : ℕ → Bool) (A B : List Mapping) (F : Mapping → Bool) → list_all (binds_within q) A ≡ true → list_all (binds_within q) B ≡ true →
    list_all (binds_within q) (left_joins A B F) ≡ true
left_joins_within q A B F h k =
    all_flat_map (binds_within q) (binds_within q) (λ a. or_alone a (filter F (merges B a)))
    (λ a l. or_alone_within q a (filter F (merges B a)) l (all_filter (binds_within q) F (merges B a) (merges_within q B a k l))) A h

all_more : {X : Type 0} (p q : X → Bool) → ((x : X) → p x ≡ true → q x ≡ true) → (xs : List X) → list_all p xs ≡ true → list_all q xs ≡ true
all_more p q e [] h = refl
all_more p q e (x ∷ xs) h = ap (λ b. b && list_all q xs) (e x (and_left (p x) _ h)) ∙ all_more p q e xs (and_right (p x) _ h)

module _ (vs : Variables) (d : Listing) where
  -- as far as a test is true that is true of what the pattern sees
  pub within : (g : GraphName) (P : Algebra) (q : ℕ → Bool) → ((c : ℕ) → sees vs P c ≡ true → q c ≡ true) → list_all (binds_within q) (solutions vs d g P) ≡ true
  within g (basic b) q e =
      all_more (binds_exactly (occurs vs b.triples)) (binds_within q) (λ m h. within_more (occurs vs b.triples) q e m (exact_within (occurs vs b.triples) m h))
      (basic_solutions vs (d.quads g) b) (basic_exact vs (d.quads g) b)
  within g (join A B) q e =
      joins_within q (solutions vs d g A) (solutions vs d g B) (within g A q (λ c h. e c (or_left (sees vs A c) (sees vs B c) h)))
      (within g B q (λ c h. e c (or_right (sees vs A c) (sees vs B c) h)))
  within g (left_join F A B) q e =
      left_joins_within q (solutions vs d g A) (solutions vs d g B) (satisfies vs F) (within g A q (λ c h. e c (or_left (sees vs A c) (sees vs B c) h)))
      (within g B q (λ c h. e c (or_right (sees vs A c) (sees vs B c) h)))
  within g (algebra.filter F A) q e = all_filter (binds_within q) (satisfies vs F) (solutions vs d g A) (within g A q e)
  within g (union A B) q e =
      all_append (binds_within q) (solutions vs d g A) (solutions vs d g B) (within g A q (λ c h. e c (or_left (sees vs A c) (sees vs B c) h)))
      (within g B q (λ c h. e c (or_right (sees vs A c) (sees vs B c) h)))
  within g (minus A B) q e = all_filter (binds_within q) (left_by shares (solutions vs d g B)) (solutions vs d g A) (within g A q e)
  within g (graph (v.Iri iri) A) q e =
      all_cond (binds_within q) (list_any (same_term (t.Iri iri)) d.names) (solutions vs d (Named (t.Iri iri)) A) (within (Named (t.Iri iri)) A q e)
  within g (graph (v.Variable name) A) q e =
      all_flat_map (λ n. true) (binds_within q) (λ n. joins (solutions vs d (Named n) A) (single vs name n ∷ []))
      (λ n _. joins_within q (solutions vs d (Named n) A) (single vs name n ∷ [])
      (within (Named n) A q (λ c h. e c (or_left (sees vs A c) (is_at c (column vs name)) h)))
      (ap (λ b. b && true) (single_within q vs name n (λ c h. e c (or_right (sees vs A c) (is_at c (column vs name)) h))))) d.names (all_any d.names)

  pub under_seen : UnderSeen vs d
  under_seen g P a =
      filter_where (binds_within (sees vs P)) (compatible (cut (sees vs P) a)) (compatible a) (λ x h. cut_compatible (sees vs P) a x h)
      (solutions vs d g P) (within g P (sees vs P) (λ c h. h))

-- ---- what doesn't see the active graph

no_left : (a b : Bool) → (a || b) ≡ false → a ≡ false
no_left true b h = h
no_left false b h = refl

no_right : (a b : Bool) → (a || b) ≡ false → b ≡ false
no_right true b h = cc
no_right false b h = h

SameBag-append : (A A2 B B2 : List Mapping) → SameBag A A2 → SameBag B B2 → SameBag (A ++ B) (A2 ++ B2)
SameBag-append A A2 B B2 h k f =
    let e1 : sum_by f (A ++ B) ≡ sum_by f A + sum_by f B = sum_by-append f A B in
    let e2 : sum_by f (A2 ++ B2) ≡ sum_by f A2 + sum_by f B2 = sum_by-append f A2 B2 in
    let i : sum_by f A ≡ sum_by f A2 = h f in
    let j : sum_by f B ≡ sum_by f B2 = k f in
    omega (arith, e1, e2, i, j)

basic_unread : (vs : Variables) (q r : List QuadParts) (ts : List TriplePattern) (k : ℕ) → (stands_any ts || is_positive k) ≡ false →
    SameBag (basic_solutions vs q (record { triples = ts; hidden = k })) (basic_solutions vs r (record { triples = ts; hidden = k }))
basic_unread vs q r [] zero h = λ f. empty_solutions vs q f ∙ sym (empty_solutions vs r f)
basic_unread vs q r [] (suc k) h = λ f. cc
basic_unread vs q r (t ∷ ts) k h = λ f. cc

module _ (vs : Variables) (d : Listing) where
  pub active_unread : ActiveUnread vs d
  active_unread g h (basic b) e = basic_unread vs (d.quads g) (d.quads h) b.triples b.hidden e
  active_unread g h (join A B) e =
      SameBag-joins (solutions vs d g A) (solutions vs d h A) (solutions vs d g B) (solutions vs d h B) (active_unread g h A (no_left (reads A) (reads B) e))
      (active_unread g h B (no_right (reads A) (reads B) e))
  active_unread g h (left_join F A B) e =
      SameBag-left_joins (satisfies vs F) (solutions vs d g A) (solutions vs d h A) (solutions vs d g B) (solutions vs d h B)
      (active_unread g h A (no_left (reads A) (reads B) e)) (active_unread g h B (no_right (reads A) (reads B) e))
  active_unread g h (algebra.filter F A) e = SameBag-filter (satisfies vs F) (solutions vs d g A) (solutions vs d h A) (active_unread g h A e)
  active_unread g h (union A B) e =
      SameBag-append (solutions vs d g A) (solutions vs d h A) (solutions vs d g B) (solutions vs d h B) (active_unread g h A (no_left (reads A) (reads B) e))
      (active_unread g h B (no_right (reads A) (reads B) e))
  active_unread g h (minus A B) e =
      SameBag-minuses (solutions vs d g A) (solutions vs d h A) (solutions vs d g B) (solutions vs d h B) (active_unread g h A (no_left (reads A) (reads B) e))
      (active_unread g h B (no_right (reads A) (reads B) e))
  active_unread g h (graph (v.Iri iri) A) e = λ f. refl
  active_unread g h (graph (v.Variable name) A) e = λ f. refl
