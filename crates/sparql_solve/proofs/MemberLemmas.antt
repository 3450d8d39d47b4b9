-- The steps of the evaluator against the solutions of the group so far.
use Rattle.std.proofs.Common.{◌≡◌, ℕ, ◌+◌, ◌<◌, ◌≤◌, false, List, [], ◌∷◌, ◌++◌, map, refl, sym, ap, ◌∙◌, length, take, drop, get_or, append_assoc, append-nil, arith}
use Rattle.std.specs.List.{fold, flat_map, sum_by}
use Rattle.std.proofs.lemmas.Grind.{flat_map-append}
use Rattle.std.proofs.lemmas.List.{take_all, take_more, drop_more}
use Rattle.std.proofs.lemmas.List.Sums.{sum_by-append}
use Rattle.rdf_terms.specs.declared.term.Term.{Term}
use Rattle.rdf_terms.specs.declared.quad.GraphName.{GraphName}
use Rattle.rdf_terms.specs.declared.quad.GraphName.TheVariants.{Named}
use Rattle.rdf_dataset.specs.State.{State}
use Rattle.sparql_trees.specs.declared.pattern.Member.{Member}
use Rattle.sparql_trees.specs.declared.pattern.Pattern.{Pattern}
use Rattle.sparql_algebra.specs.Algebra.{Algebra, union, extended, element, translation}
use Rattle.sparql_algebra.specs.Bags.{SameBag}
use Rattle.sparql_algebra.specs.Listing.{Listing}
use Rattle.sparql_values.specs.Mapping.{Variables, Mapping, single}
use Rattle.sparql_algebra.specs.Solutions.{merges, joins, solutions}
use Rattle.sparql_algebra.specs.Under.{reads}
use Rattle.sparql_algebra.proofs.CallerLemmas.{active_unread, joins_commute, SameBag-refl, SameBag-joins, SameBag-flat_map}
use Rattle.sparql_solve.specs.Members.{AreSolutions, AreMoreSolutions, over_names, over_groups}

-- ---- the members of a group

module _ (vs : Variables) (s : State) (g : GraphName) where
  pub extended_push : (G : Algebra) (xs : List Member) (x : Member) →
      fold extended G (map element (xs ++ x ∷ [])) ≡ extended (fold extended G (map element xs)) (element x)
  extended_push G [] x = refl
  extended_push G (y ∷ xs) x = extended_push (extended G (element y)) xs x

  -- ---- UNION

  pub union_is : (d : Listing) (A : Algebra) (ps : List Pattern) → solutions vs d g (fold union A (map translation ps)) ≡ solutions vs d g A ++ over_groups vs d g ps
  union_is d A [] = sym (append-nil (solutions vs d g A))
  union_is d A (p ∷ ps) =
      union_is d (union A (translation p)) ps ∙ append_assoc (solutions vs d g A) (solutions vs d g (translation p)) (over_groups vs d g ps)

-- ---- lists that come one after another

module _ {X : Type 0} (s : State) (F : Listing → X → List Mapping) where
  pub more_gives : (xs : List X) (i : ℕ) (x : X) (out rows after : List Mapping) → i < length xs → x ≡ get_or xs i x →
      AreMoreSolutions s out (λ d. flat_map (F d) (drop i xs)) (λ d. flat_map (F d) xs) → AreSolutions s rows (λ d. F d x) → after ≡ out ++ rows →
      AreMoreSolutions s after (λ d. flat_map (F d) (drop (i + 1) xs)) (λ d. flat_map (F d) xs)
  more_gives xs i x out rows after lt here h r e d l f =
      let rest = flat_map (F d) (drop (i + 1) xs) in
      let left = flat_map (F d) (drop i xs) in
      let next : drop i xs ≡ x ∷ drop (i + 1) xs = drop_more xs i x lt ∙ ap (λ (y : X). y ∷ drop (i + 1) xs) (sym here) in
      let split : sum_by f left ≡ sum_by f (F d x ++ rest) = ap (λ (ys : List X). sum_by f (flat_map (F d) ys)) next in
      let j : sum_by f rows ≡ sum_by f (F d x) = r d l f in
      let e1 : sum_by f (after ++ rest) ≡ sum_by f after + sum_by f rest = sum_by-append f after rest in
      let e2 : sum_by f after ≡ sum_by f (out ++ rows) = ap (sum_by f) e in
      let e3 : sum_by f (out ++ rows) ≡ sum_by f out + sum_by f rows = sum_by-append f out rows in
      let e5 : sum_by f (F d x ++ rest) ≡ sum_by f (F d x) + sum_by f rest = sum_by-append f (F d x) rest in
      let e6 : sum_by f (out ++ left) ≡ sum_by f out + sum_by f left = sum_by-append f out left in
      let e7 : sum_by f (out ++ left) ≡ sum_by f (flat_map (F d) xs) = h d l f in
      omega (arith, j, split, e1, e2, e3, e5, e6, e7)

  -- what the first of them give
  pub taken_more : (xs : List X) (i : ℕ) (x : X) (out rows after : List Mapping) → i < length xs → x ≡ get_or xs i x →
      AreSolutions s out (λ d. flat_map (F d) (take i xs)) → AreSolutions s rows (λ d. F d x) → after ≡ out ++ rows →
      AreSolutions s after (λ d. flat_map (F d) (take (i + 1) xs))
  taken_more xs i x out rows after lt here h r e d l f =
      let more : take (i + 1) xs ≡ take i xs ++ x ∷ [] = take_more xs i x lt ∙ ap (λ (y : X). take i xs ++ y ∷ []) (sym here) in
      let e1 : sum_by f after ≡ sum_by f out + sum_by f rows = ap (sum_by f) e ∙ sum_by-append f out rows in
      let e2 : sum_by f out ≡ sum_by f (flat_map (F d) (take i xs)) = h d l f in
      let e3 : sum_by f rows ≡ sum_by f (F d x) = r d l f in
      let e4 : sum_by f (flat_map (F d) (take (i + 1) xs)) ≡ sum_by f (flat_map (F d) (take i xs)) + sum_by f (F d x) =
      ap (λ (ys : List X). sum_by f (flat_map (F d) ys)) more ∙ ap (sum_by f) (flat_map-append (F d) (take i xs) (x ∷ []))
      ∙ sum_by-append f (flat_map (F d) (take i xs)) (F d x ++ []) ∙ ap (λ (ys : List Mapping). sum_by f (flat_map (F d) (take i xs)) + sum_by f ys) (append-nil (F d x)) in
      omega (arith, e1, e2, e3, e4)

  pub taken_all : (xs : List X) (i n : ℕ) (out : List Mapping) → length xs ≤ i → length xs ≤ n → AreSolutions s out (λ d. flat_map (F d) (take i xs)) →
      AreSolutions s out (λ d. flat_map (F d) (take n xs))
  taken_all xs i n out le more h d l f =
      h d l f ∙ ap (λ (ys : List X). sum_by f (flat_map (F d) ys)) (take_all i xs le ∙ sym (take_all n xs more))

-- ---- lists that come one after another, the first one apart from the rest

pub none_left : {X : Type 0} (xs : List X) → length xs ≡ 0 → xs ≡ []
none_left [] e = refl
none_left (x ∷ xs) e = absurd (omega (arith, e))

module _ {X : Type 0} (s : State) (F : Listing → X → List Mapping) (whole : List X) where
  pub first_gives : (x : X) (rest : List X) (out : List Mapping) → whole ≡ x ∷ rest → out ≡ [] →
      AreMoreSolutions s out (λ d. flat_map (F d) (x ∷ rest)) (λ d. flat_map (F d) whole)
  first_gives x rest out e n d l f =
      ap (λ (o : List Mapping). sum_by f (o ++ flat_map (F d) (x ∷ rest))) n ∙ ap (λ (ys : List X). sum_by f (flat_map (F d) ys)) (sym e)

  pub next_gives : (x : X) (xs rest : List X) (out rows after : List Mapping) → AreMoreSolutions s out (λ d. flat_map (F d) (x ∷ xs)) (λ d. flat_map (F d) whole) →
      AreSolutions s rows (λ d. F d x) → after ≡ out ++ rows → xs ≡ rest → AreMoreSolutions s after (λ d. flat_map (F d) rest) (λ d. flat_map (F d) whole)
  next_gives x xs rest out rows after h r e is d l f =
      let left = flat_map (F d) xs in
      let j : sum_by f rows ≡ sum_by f (F d x) = r d l f in
      let e0 : sum_by f (after ++ flat_map (F d) rest) ≡ sum_by f (after ++ left) = ap (λ (ys : List X). sum_by f (after ++ flat_map (F d) ys)) (sym is) in
      let e1 : sum_by f (after ++ left) ≡ sum_by f after + sum_by f left = sum_by-append f after left in
      let e2 : sum_by f after ≡ sum_by f (out ++ rows) = ap (sum_by f) e in
      let e3 : sum_by f (out ++ rows) ≡ sum_by f out + sum_by f rows = sum_by-append f out rows in
      let e4 : sum_by f (F d x ++ left) ≡ sum_by f (F d x) + sum_by f left = sum_by-append f (F d x) left in
      let e5 : sum_by f (out ++ (F d x ++ left)) ≡ sum_by f out + sum_by f (F d x ++ left) = sum_by-append f out (F d x ++ left) in
      let e6 : sum_by f (out ++ (F d x ++ left)) ≡ sum_by f (flat_map (F d) whole) = h d l f in
      omega (arith, j, e0, e1, e2, e3, e4, e5, e6)

  pub last_gives : (after : List Mapping) → AreMoreSolutions s after (λ d. []) (λ d. flat_map (F d) whole) → AreSolutions s after (λ d. flat_map (F d) whole)
  last_gives after h d l f = sym (ap (sum_by f) (append-nil after)) ∙ h d l f

-- ---- GRAPH

flat_of_map : {X Y Z : Type 0} (F : Y → List Z) (h : X → Y) (xs : List X) → flat_map F (map h xs) ≡ flat_map (λ x. F (h x)) xs
flat_of_map F h [] = refl
flat_of_map {Z = Z} F h (x ∷ xs) = ap (λ (l : List Z). F (h x) ++ l) (flat_of_map F h xs)

module _ (vs : Variables) (s : State) where
  -- a group that doesn't see the active graph, joined with all names at once
  pub once_for_all : (d : Listing) (g : GraphName) (x : List ℕ) (A : Algebra) → reads A ≡ false → (names : List Term) →
      SameBag (joins (solutions vs d g A) (map (single vs x) names)) (over_names vs d x A names)
  once_for_all d g x A e names f =
      let S : List Mapping = solutions vs d g A in
      joins_commute S (map (single vs x) names) f
      ∙ ap (sum_by f) (flat_of_map (merges S) (single vs x) names)
      ∙ SameBag-flat_map (λ n. merges S (single vs x n)) (λ n. joins (solutions vs d (Named n) A) (single vs x n ∷ [])) names names (SameBag-refl names) each f
    where
      each : (n : Term) → SameBag (merges (solutions vs d g A) (single vs x n)) (joins (solutions vs d (Named n) A) (single vs x n ∷ []))
      each n f2 =
          ap (sum_by f2) (sym (append-nil (merges (solutions vs d g A) (single vs x n))))
          ∙ joins_commute (single vs x n ∷ []) (solutions vs d g A) f2
          ∙ SameBag-joins (solutions vs d g A) (solutions vs d (Named n) A) (single vs x n ∷ []) (single vs x n ∷ []) (active_unread vs d g (Named n) A e)
          (SameBag-refl (single vs x n ∷ [])) f2
