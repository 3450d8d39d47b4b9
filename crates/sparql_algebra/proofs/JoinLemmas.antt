-- Join is commutative and associative, and the empty pattern is its unit.
use Rattle.std.proofs.Common.{◌≡◌, ℕ, zero, suc, ◌+◌, Bool, true, false, cond, ◌&&◌, List, [], ◌∷◌, filter, Option, Some, None, refl, sym, ap, ◌∙◌, arith, length, take, replicate}
use Rattle.std.specs.List.{sum_by, count_by, list_all}
use Rattle.std.proofs.lemmas.List.Sums.{sum_by-cons}
use Rattle.std.proofs.lemmas.List.{take-replicate}
use Rattle.rdf_terms.specs.Quad.{QuadParts}
use Rattle.rdf_terms.specs.declared.term.Term.{Term}
use Rattle.sparql_trees.specs.declared.pattern.BasicGraphPattern.{BasicGraphPattern}
use Rattle.sparql_algebra.specs.Bags.{SameBag}
use Rattle.sparql_values.specs.Mapping.{Variables, Mapping, same_term, same_mapping, empty_mapping, agrees, first_of, compatible, merge}
use Rattle.sparql_algebra.specs.Solutions.{binds_exactly, assignments, basic_solutions, merges, joins}
use Rattle.sparql_algebra.proofs.Sums.{one, sum_by-cong, sum_by-filter, sum_by-map, sum_by-flat_map, sums_from_counts}
use Rattle.sparql_algebra.proofs.TruthLemmas.{and_true, and_false, and_left, and_right, and_four, both_true, cond_both}
use Rattle.sparql_algebra.proofs.TermLemmas.{same_term_is, same_term_own, same_mapping_is, same_mapping_own}
use Rattle.sparql_algebra.proofs.CountLemmas.{sum_zero}
use Rattle.sparql_algebra.proofs.Regroup.{sum_plus}
use Rattle.sparql_algebra.proofs.UniverseLemmas.{has_length}
use Rattle.sparql_algebra.proofs.AssignmentLemmas.{assignments_count}
use Rattle.sparql_algebra.proofs.BagLemmas.{SameBag-map}

-- ---- sums

module _ {X Y : Type 0} where
  sum_swap : (h : X → Y → ℕ) (xs : List X) (ys : List Y) → sum_by (λ x. sum_by (h x) ys) xs ≡ sum_by (λ y. sum_by (λ x. h x y) xs) ys
  sum_swap h [] ys = sym (sum_zero (λ y. sum_by (λ x. h x y) []) ys (λ y. refl))
  sum_swap h (x ∷ xs) ys =
      sum_by-cons (λ z. sum_by (h z) ys) x xs
      ∙ ap (λ n. sum_by (h x) ys + n) (sum_swap h xs ys)
      ∙ sym (sum_plus (h x) (λ y. sum_by (λ z. h z y) xs) ys)
      ∙ sum_by-cong (λ y. h x y + sum_by (λ z. h z y) xs) (λ y. sum_by (λ z. h z y) (x ∷ xs)) ys (λ y. sym (sum_by-cons (λ z. h z y) x xs))

module _ {X : Type 0} (q : X → Bool) (f k : X → ℕ) (same : (x : X) → q x ≡ true → f x ≡ k x) where
  pub sum_where : (xs : List X) → list_all q xs ≡ true → sum_by f xs ≡ sum_by k xs
  sum_where [] h = refl
  sum_where (x ∷ xs) h = omega (arith, sum_by-cons f x xs, sum_by-cons k x xs, same x (and_left _ _ h), sum_where xs (and_right (q x) _ h))

sum_cond : {X : Type 0} (b : Bool) (f : X → ℕ) (xs : List X) → cond b (sum_by f xs) 0 ≡ sum_by (λ x. cond b (f x) 0) xs
sum_cond true f xs = refl
sum_cond false f xs = sym (sum_zero (λ x. 0) xs (λ x. refl))

-- the sum over the merges of the compatible pairs
pub sum_joins : (f : Mapping → ℕ) (A B : List Mapping) → sum_by f (joins A B) ≡ sum_by (λ a. sum_by (λ b. cond (compatible a b) (f (merge a b)) 0) B) A
sum_joins f A B =
    sum_by-flat_map f (merges B) A
    ∙ sum_by-cong (λ a. sum_by f (merges B a)) (λ a. sum_by (λ b. cond (compatible a b) (f (merge a b)) 0) B) A
    (λ a. sum_by-map f (merge a) (filter (compatible a) B) ∙ sum_by-filter (λ b. f (merge a b)) (compatible a) B)

-- ---- commutativity

same_term_turn : (s t : Term) → same_term s t ≡ same_term t s
same_term_turn s t =
    both_true (same_term s t) (same_term t s)
    (λ e. ap (same_term t) (same_term_is s t e) ∙ same_term_own t)
    (λ e. ap (same_term s) (same_term_is t s e) ∙ same_term_own s)

agrees_turn : (x y : Option Term) → agrees (x, y) ≡ agrees (y, x)
agrees_turn (Some s) (Some t) = same_term_turn s t
agrees_turn (Some s) None = refl
agrees_turn None (Some t) = refl
agrees_turn None None = refl

first_turn : (x y : Option Term) → agrees (x, y) ≡ true → first_of (x, y) ≡ first_of (y, x)
first_turn (Some s) (Some t) h = ap Some (same_term_is s t h)
first_turn (Some s) None h = refl
first_turn None (Some t) h = refl
first_turn None None h = refl

pub compatible_turn : (a b : Mapping) → compatible a b ≡ compatible b a
compatible_turn [] [] = refl
compatible_turn [] (y ∷ b) = refl
compatible_turn (x ∷ a) [] = refl
compatible_turn (x ∷ a) (y ∷ b) = ap (λ z. z && compatible a b) (agrees_turn x y) ∙ ap (λ z. agrees (y, x) && z) (compatible_turn a b)

pub merge_turn : (a b : Mapping) → compatible a b ≡ true → merge a b ≡ merge b a
merge_turn [] [] h = refl
merge_turn [] (y ∷ b) h = refl
merge_turn (x ∷ a) [] h = refl
merge_turn (x ∷ a) (y ∷ b) h =
    let e : first_of (x, y) ≡ first_of (y, x) = first_turn x y (and_left _ _ h) in
    let r : merge a b ≡ merge b a = merge_turn a b (and_right (agrees (x, y)) _ h) in
    λ i. e i ∷ r i

pair_turn : (f : Mapping → ℕ) (a b : Mapping) → cond (compatible a b) (f (merge a b)) 0 ≡ cond (compatible b a) (f (merge b a)) 0
pair_turn f a b = by_test (compatible a b) refl ∙ ap (λ z. cond z (f (merge b a)) 0) (compatible_turn a b)
  where
    by_test : (z : Bool) → compatible a b ≡ z → cond z (f (merge a b)) 0 ≡ cond z (f (merge b a)) 0
    by_test true e = ap f (merge_turn a b e)
    by_test false e = refl

pub joins_commute : (A B : List Mapping) → SameBag (joins A B) (joins B A)
joins_commute A B f =
    sum_joins f A B
    ∙ sum_swap (λ a b. cond (compatible a b) (f (merge a b)) 0) A B
    ∙ sum_by-cong (λ b. sum_by (λ a. cond (compatible a b) (f (merge a b)) 0) A) (λ b. sum_by (λ a. cond (compatible b a) (f (merge b a)) 0) A) B
    (λ b. sum_by-cong (λ a. cond (compatible a b) (f (merge a b)) 0) (λ a. cond (compatible b a) (f (merge b a)) 0) A (λ a. pair_turn f a b))
    ∙ sym (sum_joins f B A)

-- ---- associativity

first_three : (x y z : Option Term) → first_of (first_of (x, y), z) ≡ first_of (x, first_of (y, z))
first_three (Some s) y z = refl
first_three None (Some t) z = refl
first_three None None z = refl

merge_three : (a b c : Mapping) → merge (merge a b) c ≡ merge a (merge b c)
merge_three [] b c = refl
merge_three (x ∷ a) [] c = refl
merge_three (x ∷ a) (y ∷ b) [] = refl
merge_three (x ∷ a) (y ∷ b) (z ∷ c) = λ i. first_three x y z i ∷ merge_three a b c i

some_three : (s t u : Term) → (same_term s t && same_term s u) ≡ (same_term t u && same_term s t)
some_three s t u = by_test (same_term s t) refl
  where
    by_test : (b : Bool) → same_term s t ≡ b → (b && same_term s u) ≡ (same_term t u && b)
    by_test true e = ap (λ (x : Term). same_term x u) (same_term_is s t e) ∙ sym (and_true (same_term t u))
    by_test false e = sym (and_false (same_term t u))

agrees_three : (x y z : Option Term) → (agrees (x, y) && agrees (first_of (x, y), z)) ≡ (agrees (y, z) && agrees (x, first_of (y, z)))
agrees_three (Some s) (Some t) (Some u) = some_three s t u
agrees_three (Some s) (Some t) None = and_true (same_term s t)
agrees_three (Some s) None (Some u) = refl
agrees_three (Some s) None None = refl
agrees_three None (Some t) (Some u) = sym (and_true (same_term t u))
agrees_three None (Some t) None = refl
agrees_three None None (Some u) = refl
agrees_three None None None = refl

pub compatible_three : (n : ℕ) (a b c : Mapping) → has_length n a ≡ true → has_length n b ≡ true → has_length n c ≡ true →
    (compatible a b && compatible (merge a b) c) ≡ (compatible b c && compatible a (merge b c))
compatible_three zero [] [] [] h k l = refl
compatible_three zero [] [] (z ∷ c) h k l = cc
compatible_three zero [] (y ∷ b) c h k l = cc
compatible_three zero (x ∷ a) b c h k l = cc
compatible_three (suc n) [] b c h k l = cc
compatible_three (suc n) (x ∷ a) [] c h k l = cc
compatible_three (suc n) (x ∷ a) (y ∷ b) [] h k l = cc
compatible_three (suc n) (x ∷ a) (y ∷ b) (z ∷ c) h k l =
    and_four (agrees (x, y)) (compatible a b) (agrees (first_of (x, y), z)) (compatible (merge a b) c)
    ∙ ap (λ p. p && (compatible a b && compatible (merge a b) c)) (agrees_three x y z)
    ∙ ap (λ p. (agrees (y, z) && agrees (x, first_of (y, z))) && p) (compatible_three n a b c h k l)
    ∙ and_four (agrees (y, z)) (agrees (x, first_of (y, z))) (compatible b c) (compatible a (merge b c))

module _ (n : ℕ) (A B C : List Mapping) (ha : list_all (has_length n) A ≡ true) (hb : list_all (has_length n) B ≡ true) (hc : list_all (has_length n) C ≡ true) where
  from_left : (f : Mapping → ℕ) (a b c : Mapping) → ℕ
  from_left f a b c = cond (compatible a b && compatible (merge a b) c) (f (merge (merge a b) c)) 0

  from_right : (f : Mapping → ℕ) (a b c : Mapping) → ℕ
  from_right f a b c = cond (compatible b c && compatible a (merge b c)) (f (merge a (merge b c))) 0

  left_sum : (f : Mapping → ℕ) → sum_by f (joins (joins A B) C) ≡ sum_by (λ a. sum_by (λ b. sum_by (from_left f a b) C) B) A
  unfolding from_left
  left_sum f =
      sum_joins f (joins A B) C
      ∙ sum_joins (λ x. sum_by (λ c. cond (compatible x c) (f (merge x c)) 0) C) A B
      ∙ sum_by-cong (λ a. sum_by (λ b. cond (compatible a b) (sum_by (λ c. cond (compatible (merge a b) c) (f (merge (merge a b) c)) 0) C) 0) B)
      (λ a. sum_by (λ b. sum_by (from_left f a b) C) B) A
      (λ a. sum_by-cong (λ b. cond (compatible a b) (sum_by (λ c. cond (compatible (merge a b) c) (f (merge (merge a b) c)) 0) C) 0)
      (λ b. sum_by (from_left f a b) C) B
      (λ b. sum_cond (compatible a b) (λ c. cond (compatible (merge a b) c) (f (merge (merge a b) c)) 0) C
      ∙ sum_by-cong (λ c. cond (compatible a b) (cond (compatible (merge a b) c) (f (merge (merge a b) c)) 0) 0) (from_left f a b) C
      (λ c. cond_both (compatible a b) (compatible (merge a b) c) (f (merge (merge a b) c)) 0)))

  right_sum : (f : Mapping → ℕ) → sum_by f (joins A (joins B C)) ≡ sum_by (λ a. sum_by (λ b. sum_by (from_right f a b) C) B) A
  unfolding from_right
  right_sum f =
      sum_joins f A (joins B C)
      ∙ sum_by-cong (λ a. sum_by (λ x. cond (compatible a x) (f (merge a x)) 0) (joins B C)) (λ a. sum_by (λ b. sum_by (from_right f a b) C) B) A
      (λ a. sum_joins (λ x. cond (compatible a x) (f (merge a x)) 0) B C
      ∙ sum_by-cong (λ b. sum_by (λ c. cond (compatible b c) (cond (compatible a (merge b c)) (f (merge a (merge b c))) 0) 0) C)
      (λ b. sum_by (from_right f a b) C) B
      (λ b. sum_by-cong (λ c. cond (compatible b c) (cond (compatible a (merge b c)) (f (merge a (merge b c))) 0) 0) (from_right f a b) C
      (λ c. cond_both (compatible b c) (compatible a (merge b c)) (f (merge a (merge b c))) 0)))

  each_same : (f : Mapping → ℕ) (a b c : Mapping) → has_length n a ≡ true → has_length n b ≡ true → has_length n c ≡ true → from_left f a b c ≡ from_right f a b c
  unfolding from_left from_right
  each_same f a b c h k l =
      ap (λ z. cond z (f (merge (merge a b) c)) 0) (compatible_three n a b c h k l)
      ∙ ap (λ (m : Mapping). cond (compatible b c && compatible a (merge b c)) (f m) 0) (merge_three a b c)

  pub joins_associate : SameBag (joins (joins A B) C) (joins A (joins B C))
  joins_associate f =
      left_sum f
      ∙ sum_where (has_length n) (λ a. sum_by (λ b. sum_by (from_left f a b) C) B) (λ a. sum_by (λ b. sum_by (from_right f a b) C) B)
      (λ a h. sum_where (has_length n) (λ b. sum_by (from_left f a b) C) (λ b. sum_by (from_right f a b) C)
      (λ b k. sum_where (has_length n) (from_left f a b) (from_right f a b) (λ c l. each_same f a b c h k l) C hc) B hb) A ha
      ∙ sym (right_sum f)

-- ---- the empty pattern

abbrev empty_group : BasicGraphPattern
empty_group = record { triples = []; hidden = 0 }

binds_none : (n : ℕ) (w : Mapping) → (has_length n w && binds_exactly (λ _. false) w) ≡ same_mapping w (replicate n None)
binds_none zero [] = refl
binds_none zero (y ∷ w) = refl
binds_none (suc n) [] = refl
binds_none (suc n) (None ∷ w) = binds_none n w
binds_none (suc n) (Some t ∷ w) = and_false (has_length n w)

counted_alone : (w m : Mapping) → count_by (same_mapping w) (m ∷ []) ≡ one (same_mapping w m)
counted_alone w m =
    let counted : count_by (same_mapping w) (m ∷ []) ≡ one (same_mapping w m) + 0 = sum_by-cons (λ x. cond (same_mapping w x) 1 0) m [] in
    omega (arith, counted)

only_empty : (variables : Variables) (quads : List QuadParts) → SameBag (assignments variables quads empty_group) (empty_mapping variables ∷ [])
only_empty variables quads =
    sums_from_counts same_mapping same_mapping_is same_mapping_own (assignments variables quads empty_group) (empty_mapping variables ∷ []) counts
  where
    more : length variables + 0 ≡ length variables
    more = omega arith

    counts : (w : Mapping) → count_by (same_mapping w) (assignments variables quads empty_group) ≡ count_by (same_mapping w) (empty_mapping variables ∷ [])
    counts w =
        assignments_count variables quads empty_group w
        ∙ ap (λ n. one (has_length n w && binds_exactly (λ _. false) w)) more
        ∙ ap one (binds_none (length variables) w)
        ∙ sym (counted_alone w (empty_mapping variables))

pub empty_solutions : (variables : Variables) (quads : List QuadParts) → SameBag (basic_solutions variables quads empty_group) (empty_mapping variables ∷ [])
empty_solutions variables quads f =
    SameBag-map (take (length variables)) (assignments variables quads empty_group) (empty_mapping variables ∷ []) (only_empty variables quads) f
    ∙ ap (λ (m : Mapping). sum_by f (m ∷ [])) (take-replicate (length variables) (length variables) None (omega arith))

pub compatible_empty : (n : ℕ) (a : Mapping) → compatible (replicate n None) a ≡ true
compatible_empty zero a = refl
compatible_empty (suc n) [] = refl
compatible_empty (suc n) (x ∷ a) = compatible_empty n a

pub merge_empty : (n : ℕ) (a : Mapping) → has_length n a ≡ true → merge (replicate n None) a ≡ a
merge_empty zero [] h = refl
merge_empty zero (x ∷ a) h = cc
merge_empty (suc n) [] h = cc
merge_empty (suc n) (x ∷ a) h = ap (λ (m : Mapping). x ∷ m) (merge_empty n a h)

pub empty_joins : (variables : Variables) (A : List Mapping) → list_all (has_length (length variables)) A ≡ true → SameBag (joins (empty_mapping variables ∷ []) A) A
empty_joins variables A h f =
    sum_joins f (empty_mapping variables ∷ []) A
    ∙ sum_by-cons (λ a. sum_by (λ b. cond (compatible a b) (f (merge a b)) 0) A) (empty_mapping variables) []
    ∙ omega (
      arith,
      sum_where (has_length (length variables)) (λ b. cond (compatible (empty_mapping variables) b) (f (merge (empty_mapping variables) b)) 0) f
          (λ b k. ap (λ z. cond z (f (merge (empty_mapping variables) b)) 0) (compatible_empty (length variables) b) ∙ ap f (merge_empty (length variables) b k)) A h,
    )
