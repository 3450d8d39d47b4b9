-- The merges of a mapping with the assignments of a basic graph pattern.
use Rattle.std.proofs.Common.{◌≡◌, ℕ, zero, suc, ◌+◌, Bool, true, false, cond, ◌&&◌, ◌||◌, List, [], ◌∷◌, filter, Option, Some, None, refl, sym, ap, ◌∙◌, is_some, length}
use Rattle.std.proofs.lemmas.Bool.{eq-eqb}
use Rattle.std.specs.List.{count_by, list_all}
use Rattle.rdf_terms.specs.Quad.{QuadParts}
use Rattle.rdf_terms.specs.declared.term.Term.{Term}
use Rattle.sparql_trees.specs.declared.pattern.TriplePattern.{TriplePattern}
use Rattle.sparql_trees.specs.declared.pattern.VarOrTerm.{VarOrTerm}
use Rattle.sparql_trees.specs.declared.pattern.VarOrTerm.TheVariants.{Variable, Hidden, Term as Fixed}
use Rattle.sparql_algebra.specs.Growth.{value_grows, grows, MergesGrow}
use Rattle.sparql_values.specs.Mapping.{Variables, Mapping, same_term, same_value, same_mapping, column, value_at, value_in, agrees, first_of, compatible, merge}
use Rattle.sparql_algebra.specs.Solutions.{var_or_term, term_at, holds, instance_lies, is_at, is_column, occurs, same_bool, binds_exactly, solves, terms_of, all_mappings, merges}
use Rattle.sparql_algebra.proofs.Sums.{one, sum_by-map, sum_by-filter}
use Rattle.sparql_algebra.proofs.TruthLemmas.{and_false, and_true, and_swap, and_four, and_right, or_left, or_right, cond_one}
use Rattle.sparql_algebra.proofs.TermLemmas.{same_term_is, same_mapping_is}
use Rattle.sparql_algebra.proofs.CountLemmas.{sum_of_tests}
use Rattle.sparql_algebra.proofs.UniverseLemmas.{has_length, within, mappings_count, distinct_once, any_distinct}
use Rattle.sparql_algebra.proofs.AssignmentLemmas.{covered, all_terms, solution_term}
use Rattle.sparql_algebra.proofs.LengthLemmas.{all_lengths}
use Rattle.sparql_algebra.proofs.JoinLemmas.{sum_where}

abbrev restricted : Bool → Option Term → Option Term
restricted true y = y
restricted false y = None

-- the part of a mapping in the columns of a test
abbrev restrict : (ℕ → Bool) → Mapping → Mapping
restrict test [] = []
restrict test (y ∷ w) = restricted (test zero) y ∷ restrict (λ c. test (suc c)) w

same_pair : (t u v : Term) → (same_term t u && same_term v t) ≡ (same_term v u && same_term v t)
same_pair t u v = by_test (same_term v t) refl
  where
    by_test : (b : Bool) → same_term v t ≡ b → (same_term t u && b) ≡ (same_term v u && b)
    by_test true e = ap (λ (z : Term). same_term z u && true) (sym (same_term_is v t e))
    by_test false e = and_false (same_term t u) ∙ sym (and_false (same_term v u))

value_pair : (x y z : Option Term) (b : Bool) →
    (same_bool (is_some z) b && (agrees (x, z) && same_value y (first_of (x, z)))) ≡ (same_value (restricted b y) z && value_grows x y b)
value_pair None (Some v) (Some u) true = sym (and_true (same_term v u))
value_pair None (Some v) None true = refl
value_pair None None (Some u) true = refl
value_pair None None None true = refl
value_pair None y (Some u) false = refl
value_pair None (Some v) None false = refl
value_pair None None None false = refl
value_pair (Some t) None (Some u) b = ap (λ c. same_bool true b && c) (and_false (same_term t u)) ∙ and_false (same_bool true b) ∙ sym (and_false (same_value (restricted b None) (Some u)))
value_pair (Some t) None None b = and_false (same_bool false b) ∙ sym (and_false (same_value (restricted b None) None))
value_pair (Some t) (Some v) (Some u) true = same_pair t u v
value_pair (Some t) (Some v) None true = refl
value_pair (Some t) (Some v) (Some u) false = refl
value_pair (Some t) (Some v) None false = refl

six : (p b a c e s : Bool) → ((p && b) && ((a && c) && (e && s))) ≡ ((p && (a && e)) && (b && (c && s)))
six false b a c e s = refl
six true b false c e s = and_false b
six true b true c true s = refl
six true b true c false s = ap (λ x. b && x) (and_false c) ∙ and_false b

pair_law : (test : ℕ → Bool) (m w s : Mapping) → has_length (length m) s ≡ true →
    (binds_exactly test s && (compatible m s && same_mapping w (merge m s))) ≡ (same_mapping (restrict test w) s && grows test m w)
pair_law test [] [] [] h = refl
pair_law test [] (y ∷ w) [] h = refl
pair_law test [] w (z ∷ s) h = cc
pair_law test (x ∷ m) w [] h = cc
pair_law test (x ∷ m) [] (z ∷ s) h = ap (λ b. binds_exactly test (z ∷ s) && b) (and_false (compatible (x ∷ m) (z ∷ s))) ∙ and_false (binds_exactly test (z ∷ s))
pair_law test (x ∷ m) (y ∷ w) (z ∷ s) h =
    let later : ℕ → Bool = λ c. test (suc c) in
    six (same_bool (is_some z) (test zero)) (binds_exactly later s) (agrees (x, z)) (compatible m s) (same_value y (first_of (x, z))) (same_mapping w (merge m s))
    ∙ ap (λ b. b && (binds_exactly later s && (compatible m s && same_mapping w (merge m s)))) (value_pair x y z (test zero))
    ∙ ap (λ b. (same_value (restricted (test zero) y) z && value_grows x y (test zero)) && b) (pair_law later m w s h)
    ∙ and_four (same_value (restricted (test zero) y) z) (value_grows x y (test zero)) (same_mapping (restrict later w) s) (grows later m w)

-- the part in the columns of the pattern has the same instances
value_restrict : (test : ℕ → Bool) (w : Mapping) (c : ℕ) → test c ≡ true → value_at (restrict test w) c ≡ value_at w c
value_restrict test [] c h = refl
value_restrict test (y ∷ w) zero h = ap (λ b. restricted b y) h
value_restrict test (y ∷ w) (suc c) h = value_restrict (λ d. test (suc d)) w c h

restrict_binds : (test : ℕ → Bool) (w : Mapping) (c : ℕ) (t : Term) → value_at (restrict test w) c ≡ Some t → test c ≡ true
restrict_binds test [] c t h = cc
restrict_binds test (y ∷ w) zero t h = by_test (test zero) h
  where
    by_test : (b : Bool) → restricted b y ≡ Some t → b ≡ true
    by_test true e = refl
    by_test false e = cc
restrict_binds test (y ∷ w) (suc c) t h = restrict_binds (λ d. test (suc d)) w c t h

place_restrict : (test : ℕ → Bool) (w : Mapping) (o : Option ℕ) → ((c : ℕ) → is_at c o ≡ true → test c ≡ true) → value_in (restrict test w) o ≡ value_in w o
place_restrict test w None h = refl
place_restrict test w (Some d) h = value_restrict test w d (h d (eq-eqb d d refl))

term_restrict : (variables : Variables) (test : ℕ → Bool) (w : Mapping) (x : VarOrTerm) → ((c : ℕ) → is_column variables c x ≡ true → test c ≡ true) →
    term_at variables (restrict test w) x ≡ term_at variables w x
term_restrict variables test w (Variable name) h = place_restrict test w (column variables name) h
term_restrict variables test w (Hidden number) h = place_restrict test w (Some (length variables + number)) h
term_restrict variables test w (Fixed t) h = refl

lies_restrict : (variables : Variables) (quads : List QuadParts) (test : ℕ → Bool) (w : Mapping) (ps : List TriplePattern) →
    ((c : ℕ) → occurs variables ps c ≡ true → test c ≡ true) →
    list_all (instance_lies variables quads (restrict test w)) ps ≡ list_all (instance_lies variables quads w) ps
lies_restrict variables quads test w [] h = refl
lies_restrict variables quads test w (p ∷ ps) h =
    let here : (c : ℕ) → (is_column variables c p.subject || (is_column variables c (var_or_term p.predicate) || is_column variables c p.object)) ≡ true → test c ≡ true =
    λ c e. h c (or_left (is_column variables c p.subject || (is_column variables c (var_or_term p.predicate) || is_column variables c p.object)) _ e) in
    let s = term_restrict variables test w p.subject (λ c e. here c (or_left (is_column variables c p.subject) _ e)) in
    let q = term_restrict variables test w (var_or_term p.predicate) (λ c e. here c (or_right (is_column variables c p.subject) _ (or_left (is_column variables c (var_or_term p.predicate)) _ e))) in
    let o = term_restrict variables test w p.object (λ c e. here c (or_right (is_column variables c p.subject) _ (or_right (is_column variables c (var_or_term p.predicate)) _ e))) in
    ap (λ b. b && list_all (instance_lies variables quads (restrict test w)) ps)
    (ap (λ (x : Option Term). holds quads x (term_at variables (restrict test w) (var_or_term p.predicate)) (term_at variables (restrict test w) p.object)) s
    ∙ ap (λ (x : Option Term). holds quads (term_at variables w p.subject) x (term_at variables (restrict test w) p.object)) q
    ∙ ap (λ (x : Option Term). holds quads (term_at variables w p.subject) (term_at variables w (var_or_term p.predicate)) x) o)
    ∙ ap (λ b. instance_lies variables quads w p && b)
    (lies_restrict variables quads test w ps
    (λ c e. h c (or_right (is_column variables c p.subject || (is_column variables c (var_or_term p.predicate) || is_column variables c p.object)) _ e)))

grown_length : (test : ℕ → Bool) (m w : Mapping) → grows test m w ≡ true → has_length (length m) (restrict test w) ≡ true
grown_length test [] [] h = refl
grown_length test [] (y ∷ w) h = cc
grown_length test (x ∷ m) [] h = cc
grown_length test (x ∷ m) (y ∷ w) h = grown_length (λ c. test (suc c)) m w (and_right (value_grows x y (test zero)) _ h)

if_four : (p b c d : Bool) → cond (p && b) (cond c (one d) 0) 0 ≡ one (p && (b && (c && d)))
if_four true true true d = refl
if_four true true false d = refl
if_four true false c d = refl
if_four false b c d = refl

module _ (variables : Variables) (quads : List QuadParts) (ps : List TriplePattern) (a w : Mapping) where
  abbrev all : List Mapping
  all = all_mappings (length a) (terms_of quads)

  abbrev part : Mapping
  part = restrict (occurs variables ps) w

  abbrev lie : Mapping → Bool
  lie s = list_all (instance_lies variables quads s) ps

  abbrev grown : Bool
  grown = grows (occurs variables ps) a w

  moved : (s : Mapping) (b : Bool) → same_mapping part s ≡ b → (b && (lie s && grown)) ≡ (b && (lie part && grown))
  moved s true e = ap (λ (z : Mapping). lie z && grown) (sym (same_mapping_is part s e))
  moved s false e = refl

  each : (s : Mapping) → has_length (length a) s ≡ true →
      cond (solves variables quads ps s) (cond (compatible a s) (cond (same_mapping w (merge a s)) 1 0) 0) 0 ≡ one (same_mapping part s && (lie part && grown))
  each s h =
      if_four (lie s) (binds_exactly (occurs variables ps) s) (compatible a s) (same_mapping w (merge a s))
      ∙ ap one (ap (λ b. lie s && b) (pair_law (occurs variables ps) a w s h) ∙ and_swap (lie s) (same_mapping part s) grown ∙ moved s (same_mapping part s) refl)

  closed : (l b : Bool) → lie part ≡ l → grown ≡ b → ((l && b) && within (length a) (terms_of quads) part) ≡ (l && b)
  closed true true hl hb =
      covered (length a) (terms_of quads) part
      (λ c t e. any_distinct t (all_terms quads) ∙ solution_term variables quads part c t e ps hl (restrict_binds (occurs variables ps) w c t e))
      ∙ grown_length (occurs variables ps) a w hb
  closed true false hl hb = refl
  closed false b hl hb = refl

  merges_count : count_by (same_mapping w) (merges (filter (solves variables quads ps) all) a) ≡ one (lie w && grown)
  merges_count =
      sum_by-map (λ x. cond (same_mapping w x) 1 0) (merge a) (filter (compatible a) (filter (solves variables quads ps) all))
      ∙ sum_by-filter (λ s. cond (same_mapping w (merge a s)) 1 0) (compatible a) (filter (solves variables quads ps) all)
      ∙ sum_by-filter (λ s. cond (compatible a s) (cond (same_mapping w (merge a s)) 1 0) 0) (solves variables quads ps) all
      ∙ sum_where (has_length (length a)) (λ s. cond (solves variables quads ps s) (cond (compatible a s) (cond (same_mapping w (merge a s)) 1 0) 0) 0)
      (λ s. one (same_mapping part s && (lie part && grown))) each all (all_lengths (length a) (terms_of quads))
      ∙ sum_of_tests (same_mapping part) (lie part && grown) all
      ∙ ap (λ k. cond (lie part && grown) k 0) (mappings_count (terms_of quads) (λ t. distinct_once t (all_terms quads)) (length a) part)
      ∙ cond_one (lie part && grown) (within (length a) (terms_of quads) part)
      ∙ ap one (closed (lie part) grown refl refl ∙ ap (λ b. b && grown) (lies_restrict variables quads (occurs variables ps) w ps (λ c e. e)))

pub merges_grow : MergesGrow
merges_grow variables quads ps a w = merges_count variables quads ps a w
