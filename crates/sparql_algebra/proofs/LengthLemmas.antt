-- Each solution has a place for each variable.
use Rattle.std.proofs.Common.{◌≡◌, ℕ, zero, suc, ◌+◌, Bool, true, false, cond, ◌&&◌, List, [], ◌∷◌, ◌++◌, map, filter, Option, Some, None, refl, ap, ◌∙◌, arith, length, take}
use Rattle.std.specs.List.{flat_map, list_any, list_all}
use Rattle.std.proofs.lemmas.List.{length-replicate, length-set, length-take-le}
use Rattle.rdf_terms.specs.declared.term.Term.{Term}
use Rattle.rdf_terms.specs.declared.term.Term.TheVariants as t
use Rattle.rdf_terms.specs.declared.quad.GraphName.{GraphName}
use Rattle.rdf_terms.specs.declared.quad.GraphName.TheVariants.{Named}
use Rattle.sparql_trees.specs.declared.pattern.VarOrIri.TheVariants as v
use Rattle.sparql_algebra.specs.Algebra as algebra
use Rattle.sparql_algebra.specs.Algebra.{Algebra, basic, join, left_join, union, minus, graph}
use Rattle.sparql_algebra.specs.Listing.{Listing}
use Rattle.sparql_values.specs.Mapping.{Variables, Mapping, same_term, column, set_in, empty_mapping, single, compatible, merge}
use Rattle.sparql_algebra.specs.Solutions.{solves, terms_of, all_mappings, assignments, merges, joins, or_alone, left_joins, shares, left_by, satisfies, solutions}
use Rattle.sparql_algebra.proofs.TruthLemmas.{and_left, and_right}
use Rattle.sparql_algebra.proofs.UniverseLemmas.{has_length, longer}

pub length_from : (n : ℕ) (w : Mapping) → has_length n w ≡ true → length w ≡ n
length_from zero [] h = refl
length_from zero (y ∷ w) h = cc
length_from (suc n) [] h = cc
length_from (suc n) (y ∷ w) h = omega (arith, length_from n w h)

pub length_to : (n : ℕ) (w : Mapping) → length w ≡ n → has_length n w ≡ true
length_to zero [] h = refl
length_to zero (y ∷ w) h = absurd (omega arith)
length_to (suc n) [] h = absurd (omega arith)
length_to (suc n) (y ∷ w) h = length_to n w (omega arith)

module _ {X : Type 0} (q : X → Bool) where
  pub all_append : (xs ys : List X) → list_all q xs ≡ true → list_all q ys ≡ true → list_all q (xs ++ ys) ≡ true
  all_append [] ys h k = k
  all_append (x ∷ xs) ys h k = ap (λ b. b && list_all q (xs ++ ys)) (and_left (q x) _ h) ∙ all_append xs ys (and_right (q x) _ h) k

  pub all_filter : (p : X → Bool) (xs : List X) → list_all q xs ≡ true → list_all q (filter p xs) ≡ true
  all_filter p [] h = refl
  all_filter p (x ∷ xs) h = by_test (p x) (all_filter p xs (and_right (q x) _ h))
    where
      by_test : (b : Bool) → list_all q (filter p xs) ≡ true → list_all q (cond b (x ∷ filter p xs) (filter p xs)) ≡ true
      by_test true r = ap (λ b. b && list_all q (filter p xs)) (and_left (q x) _ h) ∙ r
      by_test false r = r

  pub all_cond : (b : Bool) (xs : List X) → list_all q xs ≡ true → list_all q (cond b xs []) ≡ true
  all_cond true xs h = h
  all_cond false xs h = refl

module _ {X Y : Type 0} (p : X → Bool) (q : Y → Bool) where
  pub all_map : (f : X → Y) → ((x : X) → p x ≡ true → q (f x) ≡ true) → (xs : List X) → list_all p xs ≡ true → list_all q (map f xs) ≡ true
  all_map f each [] h = refl
  all_map f each (x ∷ xs) h =
      ap (λ b. b && list_all q (map f xs)) (each x (and_left (p x) _ h)) ∙ all_map f each xs (and_right (p x) _ h)

  pub all_flat_map : (f : X → List Y) → ((x : X) → p x ≡ true → list_all q (f x) ≡ true) → (xs : List X) → list_all p xs ≡ true →
      list_all q (flat_map f xs) ≡ true
  all_flat_map f each [] h = refl
  all_flat_map f each (x ∷ xs) h =
      all_append q (f x) (flat_map f xs) (each x (and_left (p x) _ h)) (all_flat_map f each xs (and_right (p x) _ h))

all_any : {X : Type 0} (xs : List X) → list_all (λ (x : X). true) xs ≡ true
all_any [] = refl
all_any (x ∷ xs) = all_any xs

-- ---- mappings

all_pushed : (n : ℕ) (m : Mapping) (T : List Term) → has_length n m ≡ true → list_all (has_length (suc n)) (map (λ t. Some t ∷ m) T) ≡ true
all_pushed n m [] h = refl
all_pushed n m (t ∷ T) h = ap (λ b. b && list_all (has_length (suc n)) (map (λ t. Some t ∷ m) T)) h ∙ all_pushed n m T h

pub all_lengths : (n : ℕ) (T : List Term) → list_all (has_length n) (all_mappings n T) ≡ true
all_lengths zero T = refl
all_lengths (suc n) T =
    all_flat_map (has_length n) (has_length (suc n)) (longer T)
    (λ m h. ap (λ b. b && list_all (has_length (suc n)) (map (λ t. Some t ∷ m) T)) h ∙ all_pushed n m T h) (all_mappings n T) (all_lengths n T)

cut_length : (n k : ℕ) (w : Mapping) → has_length (n + k) w ≡ true → has_length n (take n w) ≡ true
cut_length n k w h = length_to n (take n w) (length-take-le n w (omega (arith, length_from (n + k) w h)))

pub merge_length : (n : ℕ) (a b : Mapping) → has_length n a ≡ true → has_length n b ≡ true → has_length n (merge a b) ≡ true
merge_length zero [] b h k = refl
merge_length zero (x ∷ a) b h k = cc
merge_length (suc n) [] b h k = cc
merge_length (suc n) (x ∷ a) [] h k = cc
merge_length (suc n) (x ∷ a) (y ∷ b) h k = merge_length n a b h k

pub set_length : (m : Mapping) (o : Option ℕ) (t : Term) → length (set_in m o t) ≡ length m
set_length m (Some place) t = length-set m place (Some t)
set_length m None t = refl

pub empty_length : (variables : Variables) → has_length (length variables) (empty_mapping variables) ≡ true
empty_length variables = length_to (length variables) (empty_mapping variables) (length-replicate (length variables) None)

pub single_length : (variables : Variables) (name : List ℕ) (t : Term) → has_length (length variables) (single variables name t) ≡ true
single_length variables name t =
    length_to (length variables) (single variables name t)
    (set_length (empty_mapping variables) (column variables name) t ∙ length-replicate (length variables) None)

-- ---- solutions

pub merges_length : (n : ℕ) (B : List Mapping) (a : Mapping) → list_all (has_length n) B ≡ true → has_length n a ≡ true → list_all (has_length n) (merges B a) ≡ true
merges_length n B a h k =
    all_map (has_length n) (has_length n) (merge a) (λ b l. merge_length n a b k l) (filter (compatible a) B) (all_filter (has_length n) (compatible a) B h)

joins_length : (n : ℕ) (A B : List Mapping) → list_all (has_length n) A ≡ true → list_all (has_length n) B ≡ true → list_all (has_length n) (joins A B) ≡ true
joins_length n A B h k = all_flat_map (has_length n) (has_length n) (merges B) (λ a l. merges_length n B a k l) A h

or_alone_length : (n : ℕ) (a : Mapping) (ms : List Mapping) → has_length n a ≡ true → list_all (has_length n) ms ≡ true → list_all (has_length n) (or_alone a ms) ≡ true
or_alone_length n a [] h k = ap (λ b. b && true) h
or_alone_length n a (m ∷ ms) h k = k

left_joins_length : (n : ℕ) (A B : List Mapping) (F : Mapping → Bool) → list_all (has_length n) A ≡ true → list_all (has_length n) B ≡ true →
    list_all (has_length n) (left_joins A B F) ≡ true
left_joins_length n A B F h k =
    all_flat_map (has_length n) (has_length n) (λ a. or_alone a (filter F (merges B a)))
    (λ a l. or_alone_length n a (filter F (merges B a)) l (all_filter (has_length n) F (merges B a) (merges_length n B a k l))) A h

module _ (variables : Variables) (d : Listing) where
  pub solutions_length : (g : GraphName) (P : Algebra) → list_all (has_length (length variables)) (solutions variables d g P) ≡ true
  solutions_length g (basic b) =
      all_map (has_length (length variables + b.hidden)) (has_length (length variables)) (take (length variables)) (λ w h. cut_length (length variables) b.hidden w h)
      (assignments variables (d.quads g) b)
      (all_filter (has_length (length variables + b.hidden)) (solves variables (d.quads g) b.triples) (all_mappings (length variables + b.hidden) (terms_of (d.quads g)))
      (all_lengths (length variables + b.hidden) (terms_of (d.quads g))))
  solutions_length g (join A B) =
      joins_length (length variables) (solutions variables d g A) (solutions variables d g B) (solutions_length g A) (solutions_length g B)
  solutions_length g (left_join F A B) =
      left_joins_length (length variables) (solutions variables d g A) (solutions variables d g B) (satisfies variables F) (solutions_length g A) (solutions_length g B)
  solutions_length g (algebra.filter F A) =
      all_filter (has_length (length variables)) (satisfies variables F) (solutions variables d g A) (solutions_length g A)
  solutions_length g (union A B) =
      all_append (has_length (length variables)) (solutions variables d g A) (solutions variables d g B) (solutions_length g A) (solutions_length g B)
  solutions_length g (minus A B) =
      all_filter (has_length (length variables)) (left_by shares (solutions variables d g B)) (solutions variables d g A) (solutions_length g A)
  solutions_length g (graph (v.Iri iri) A) =
      all_cond (has_length (length variables)) (list_any (same_term (t.Iri iri)) d.names) (solutions variables d (Named (t.Iri iri)) A) (solutions_length (Named (t.Iri iri)) A)
  solutions_length g (graph (v.Variable name) A) =
      all_flat_map (λ n. true) (has_length (length variables)) (λ n. joins (solutions variables d (Named n) A) (single variables name n ∷ []))
      (λ n _. joins_length (length variables) (solutions variables d (Named n) A) (single variables name n ∷ []) (solutions_length (Named n) A)
      (ap (λ b. b && true) (single_length variables name n))) d.names (all_any d.names)
