-- MINUS of a basic graph pattern, looked up under rows.
use Rattle.std.proofs.Common.{◌≡◌, ℕ, zero, suc, Bool, true, false, cond, ◌&&◌, ◌||◌, List, [], ◌∷◌, map, filter, Option, Some, None, is_none, refl, sym, ap, ◌∙◌, subst, length, arith}
use Rattle.std.specs.List.{sum_by, list_all}
use Rattle.std.proofs.lemmas.List.{length-replicate}
use Rattle.rdf_terms.specs.declared.term.Term.{Term}
use Rattle.rdf_terms.specs.declared.quad.GraphName.{GraphName}
use Rattle.rdf_dataset.specs.State.{State}
use Rattle.sparql_trees.specs.declared.pattern.BasicGraphPattern.{BasicGraphPattern}
use Rattle.sparql_trees.specs.declared.pattern.Member.{Member}
use Rattle.sparql_trees.specs.declared.pattern.Member.TheVariants as m
use Rattle.sparql_values.specs.Mapping.{Variables, Mapping, compatible, empty_mapping, first_of, merge}
use Rattle.sparql_algebra.specs.Algebra.{basic, removed, element, translation}
use Rattle.sparql_algebra.specs.Bags.{SameBag}
use Rattle.sparql_algebra.specs.Listing.{Listing}
use Rattle.sparql_algebra.specs.Solutions.{both_have, merges, occurs, shares, solutions}
use Rattle.sparql_algebra.specs.Under.{agreeing, cut}
use Rattle.sparql_algebra.proofs.CallerLemmas.{all_filter, all_under_nothing, basic_under, and_left, and_right, element-Basic, element-Minus, filter_turn, has_length, length_from, solutions_length, SameBag-filter, SameBag-merges}
use Rattle.sparql_solve.specs.declared.look_ups.Graphs.TheVariants.{One}
use Rattle.sparql_solve.specs.declared.look_ups.LookUp.{LookUp}
use Rattle.sparql_solve.specs.Members.{element_solutions}
use Rattle.sparql_solve.specs.Sides.{RemovesJust, found, look_up_in}
use Rattle.sparql_solve.specs.Under.{IsLookUpFor, IsLookUpOf, binds_none, flags_where, masked, own_columns, shown}
use Rattle.sparql_solve.proofs.FollowLemmas.{own_are}
use Rattle.sparql_solve.proofs.SideLemmas.{basic_look_up, just_bag}

-- ---- a row without the pattern's columns has no variable in common with its solutions

one_apart : (x y : Option Term) (b : Bool) → is_none (shown (x, b)) ≡ true → both_have (x, cond b y None) ≡ false
one_apart None y b h = refl
one_apart (Some t) y false h = refl
one_apart (Some t) y true h = cc

columns_apart : (test : ℕ → Bool) (n : ℕ) (x r : Mapping) → binds_none (masked (flags_where test n) x) ≡ true → length x ≡ n → shares x (cut test r) ≡ false
columns_apart test n [] r h e = refl
columns_apart test n (y ∷ x) [] h e = refl
columns_apart test zero (y ∷ x) (z ∷ r) h e = absurd (omega arith)
columns_apart test (suc n) (y ∷ x) (z ∷ r) h e =
    ap (λ b. b || shares x (cut (λ c. test (suc c)) r)) (one_apart y z (test zero) (and_left (is_none (shown (y, test zero))) _ h))
    ∙ columns_apart (λ c. test (suc c)) n x r (and_right (is_none (shown (y, test zero))) _ h) (omega arith)

none_apart : (test : ℕ → Bool) (n : ℕ) (x : Mapping) → binds_none (masked (flags_where test n) x) ≡ true → length x ≡ n → (M : List Mapping) →
    filter (shares x) (map (cut test) M) ≡ []
none_apart test n x h e [] = refl
none_apart test n x h e (r ∷ M) =
    ap (λ b. cond b (cut test r ∷ filter (shares x) (map (cut test) M)) (filter (shares x) (map (cut test) M))) (columns_apart test n x r h e)
    ∙ none_apart test n x h e M

-- ---- one with one of them has it in common with each that is compatible with it

one_met : (x y : Option Term) (b : Bool) → is_none (shown (x, b)) ≡ false → both_have (x, cond b (first_of (x, y)) None) ≡ true
one_met None y true h = cc
one_met None y false h = cc
one_met (Some t) y false h = cc
one_met (Some t) y true h = refl

columns_met : (test : ℕ → Bool) (n : ℕ) (x r : Mapping) → binds_none (masked (flags_where test n) x) ≡ false → length x ≡ n → length r ≡ n →
    shares x (cut test (merge x r)) ≡ true
columns_met test n [] r h e k = cc
columns_met test n (y ∷ x) [] h e k = absurd (omega (arith, e, k))
columns_met test zero (y ∷ x) (z ∷ r) h e k = absurd (omega (arith, e))
columns_met test (suc n) (y ∷ x) (z ∷ r) h e k =
    by_test (is_none (shown (y, test zero))) refl h (columns_met (λ c. test (suc c)) n x r)
  where
    later : Bool
    later = binds_none (masked (flags_where (λ c. test (suc c)) n) x)

    rest : Bool
    rest = shares x (cut (λ c. test (suc c)) (merge x r))

    by_head : (b : Bool) → b ≡ true → (b || rest) ≡ true
    by_head true i = refl
    by_head false i = cc

    by_rest : (b c : Bool) → c ≡ true → (b || c) ≡ true
    by_rest true c i = refl
    by_rest false c i = i

    by_test : (b : Bool) → is_none (shown (y, test zero)) ≡ b → (is_none (shown (y, test zero)) && later) ≡ false → (later ≡ false → length x ≡ n → length r ≡ n → rest ≡ true) →
        (both_have (y, cond (test zero) (first_of (y, z)) None) || rest) ≡ true
    by_test false i j s = by_head (both_have (y, cond (test zero) (first_of (y, z)) None)) (one_met y z (test zero) i)
    by_test true i j s =
        by_rest (both_have (y, cond (test zero) (first_of (y, z)) None)) rest
        (s (ap (λ b. b && later) (sym i) ∙ j) (omega (arith, e)) (omega (arith, k)))

all_met : (test : ℕ → Bool) (n : ℕ) (x : Mapping) → binds_none (masked (flags_where test n) x) ≡ false → length x ≡ n → (M : List Mapping) → list_all (has_length n) M ≡ true →
    filter (shares x) (map (cut test) (map (merge x) M)) ≡ map (cut test) (map (merge x) M)
all_met test n x h e [] w = refl
all_met test n x h e (r ∷ M) w =
    ap (λ b. cond b (cut test (merge x r) ∷ filter (shares x) (map (cut test) (map (merge x) M))) (filter (shares x) (map (cut test) (map (merge x) M))))
    (columns_met test n x r h e (length_from n r (and_left (has_length n r) _ w)))
    ∙ ap (λ (l : List Mapping). cut test (merge x r) ∷ l) (all_met test n x h e M (and_right (has_length n r) _ w))

module _ (vs : Variables) (d : Listing) (g : GraphName) (b : BasicGraphPattern) where
  none_shared : (x : Mapping) → binds_none (masked (flags_where (occurs vs b.triples) (length vs)) x) ≡ true → length x ≡ length vs →
      filter (shares x) (solutions vs d g (basic b)) ≡ []
  none_shared x h e =
      ap (filter (shares x))
      (sym (all_under_nothing vs d g (basic b)) ∙ basic_under vs d g b (empty_mapping vs) (length-replicate {A = Option Term} (length vs) None))
      ∙ none_apart (occurs vs b.triples) (length vs) x h e (merges (solutions vs d g (basic b)) (empty_mapping vs))

  all_shared : (x : Mapping) → binds_none (masked (flags_where (occurs vs b.triples) (length vs)) x) ≡ false → length x ≡ length vs →
      merges (filter (shares x) (solutions vs d g (basic b))) x ≡ merges (solutions vs d g (basic b)) x
  all_shared x h e =
      let S : List Mapping = solutions vs d g (basic b) in
      let own : ℕ → Bool = occurs vs b.triples in
      let there : agreeing S x ≡ map (cut own) (merges S x) = basic_under vs d g b x e in
      ap (map (merge x))
      (sym (filter_turn (compatible x) (shares x) S)
      ∙ ap (filter (shares x)) there
      ∙ all_met own (length vs) x h e (filter (compatible x) S) (all_filter (has_length (length vs)) (compatible x) S (solutions_length vs d g (basic b)))
      ∙ sym there)

-- ---- the member

module _ (vs : Variables) (s : State) (g : GraphName) where
  basic_removed : (b : BasicGraphPattern) (l : LookUp) → l ≡ look_up_in vs (One g) b → IsLookUpFor vs s (removed (basic b)) l (λ d. solutions vs d g (basic b))
  basic_removed b l el d k x w = by_test (binds_none (masked (own_columns vs l) x)) refl
    where
      flags : own_columns vs l ≡ flags_where (occurs vs b.triples) (length vs)
      flags = own_are vs s (One g) b l.places l (own_columns vs l) el refl refl

      by_test : (c : Bool) → binds_none (masked (own_columns vs l) x) ≡ c →
          SameBag (cond c [] (found vs d l x)) (merges (filter (shares x) (solutions vs d g (basic b))) x)
      by_test true i f =
          ap (λ (xs : List Mapping). sum_by f (merges xs x)) (sym (none_shared vs d g b x (ap (λ (fs : List Bool). binds_none (masked fs x)) (sym flags) ∙ i) w))
      by_test false i f =
          basic_look_up vs s g (m.Basic b) b (One g) g l refl refl refl el d k x w f
          ∙ ap (λ y. sum_by f (merges (element_solutions vs d g y) x)) (element-Basic b)
          ∙ ap (sum_by f) (sym (all_shared vs d g b x (ap (λ (fs : List Bool). binds_none (masked fs x)) (sym flags) ∙ i) w))

  pub removed_gives : (x : Member) (b : BasicGraphPattern) (own : GraphName) (l : LookUp) → RemovesJust x b → own ≡ g → l ≡ look_up_in vs (One own) b →
      IsLookUpOf vs s l (λ d. element_solutions vs d g (element x))
  removed_gives x b own l h eo el =
      subst (λ k. IsLookUpOf vs s l (λ d. element_solutions vs d g k)) (sym (ap element h.member ∙ element-Minus h.group)) group
    where
      group : IsLookUpOf vs s l (λ d. solutions vs d g (translation h.group))
      group d k y w f =
          let S : List Mapping = solutions vs d g (basic b) in
          let T : List Mapping = solutions vs d g (translation h.group) in
          basic_look_up vs s g (m.Basic b) b (One own) own l refl refl eo el d k y w f
          ∙ ap (λ z. sum_by f (merges (element_solutions vs d g z) y)) (element-Basic b)
          ∙ SameBag-merges y S T (just_bag vs d h.group b h.holds g) f

  pub removed_look_up : (x : Member) (b : BasicGraphPattern) (own : GraphName) (l : LookUp) → RemovesJust x b → own ≡ g → l ≡ look_up_in vs (One own) b →
      IsLookUpFor vs s (element x) l (λ d. element_solutions vs d g (element x))
  removed_look_up x b own l h eo el =
      subst (λ k. IsLookUpFor vs s k l (λ d. element_solutions vs d g k)) (sym (ap element h.member ∙ element-Minus h.group)) group
    where
      group : IsLookUpFor vs s (removed (translation h.group)) l (λ d. solutions vs d g (translation h.group))
      group d k y w f =
          let S : List Mapping = solutions vs d g (basic b) in
          let T : List Mapping = solutions vs d g (translation h.group) in
          basic_removed b l (el ∙ ap (λ (n : GraphName). look_up_in vs (One n) b) eo) d k y w f
          ∙ SameBag-merges y (filter (shares y) S) (filter (shares y) T) (SameBag-filter (shares y) S T (just_bag vs d h.group b h.holds g)) f
