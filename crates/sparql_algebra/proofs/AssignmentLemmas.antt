-- The assignments that solve a basic graph pattern.
use Rattle.std.proofs.Common.{◌≡◌, ℕ, ◌+◌, zero, suc, Bool, true, false, cond, ◌&&◌, ◌||◌, List, [], ◌∷◌, filter, length, Option, Some, None, refl, sym, ap, ◌∙◌, is_some, ◌⊎◌, inl, inr}
use Rattle.std.specs.List.{count_by, flat_map, list_any, list_all}
use Rattle.std.proofs.lemmas.Bool.{eqb-true}
use Rattle.rdf_terms.specs.Quad.{QuadParts}
use Rattle.rdf_terms.specs.declared.term.Term.{Term}
use Rattle.sparql_trees.specs.declared.pattern.BasicGraphPattern.{BasicGraphPattern}
use Rattle.sparql_trees.specs.declared.pattern.TriplePattern.{TriplePattern}
use Rattle.sparql_trees.specs.declared.pattern.VarOrTerm.{VarOrTerm}
use Rattle.sparql_trees.specs.declared.pattern.VarOrTerm.TheVariants.{Variable, Hidden, Term as Fixed}
use Rattle.sparql_values.specs.Mapping.{Variables, Mapping, same_term, same_mapping, column, value_at, value_in}
use Rattle.sparql_algebra.specs.Solutions.{var_or_term, term_at, is_triple, holds, instance_lies, is_at, is_column, occurs, same_bool, binds_exactly, solves, terms_of, all_mappings, assignments}
use Rattle.sparql_algebra.proofs.Sums.{one, sum_by-cong, sum_by-filter}
use Rattle.sparql_algebra.proofs.TruthLemmas.{and_false, and_left, and_right, and_true, or_left, or_right, or_cases, cond_one}
use Rattle.sparql_algebra.proofs.TermLemmas.{same_term_is, same_term_own, same_mapping_is}
use Rattle.sparql_algebra.proofs.CountLemmas.{sum_of_tests}
use Rattle.sparql_algebra.proofs.UniverseLemmas.{has_length, within, mappings_count, any_distinct, distinct_once}

some_is : {s t : Term} → Some s ≡ Some t → t ≡ s
some_is e = cc

-- Every term that a solution has is a term of the graph

pub covered : (n : ℕ) (T : List Term) (w : Mapping) → ((c : ℕ) (t : Term) → value_at w c ≡ Some t → list_any (same_term t) T ≡ true) →
    within n T w ≡ has_length n w
covered zero T [] h = refl
covered zero T (y ∷ w) h = refl
covered (suc n) T [] h = refl
covered (suc n) T (None ∷ w) h = covered n T w (λ c t e. h (suc c) t e)
covered (suc n) T (Some u ∷ w) h = ap (λ b. b && within n T w) (h zero u refl) ∙ covered n T w (λ c t e. h (suc c) t e)

binds_at : (test : ℕ → Bool) (w : Mapping) (c : ℕ) (t : Term) → binds_exactly test w ≡ true → value_at w c ≡ Some t → test c ≡ true
binds_at test [] c t h e = cc
binds_at test (Some u ∷ w) zero t h e = and_left (test zero) _ h
binds_at test (None ∷ w) zero t h e = cc
binds_at test (x ∷ w) (suc c) t h e = binds_at (λ d. test (suc d)) w c t (and_right (same_bool (is_some x) (test zero)) _ h) e

abbrev pub all_terms : List QuadParts → List Term
all_terms quads = flat_map (λ q. q.subject ∷ q.predicate ∷ q.object ∷ []) quads

-- each term of a triple that a graph holds is a term of the graph
terms_held : (quads : List QuadParts) (s p o t : Term) → list_any (is_triple s p o) quads ≡ true →
    (same_term t s || (same_term t p || same_term t o)) ≡ true → list_any (same_term t) (all_terms quads) ≡ true
terms_held [] s p o t h k = cc
terms_held (x ∷ quads) s p o t h k =
    or_cases (is_triple s p o x) (list_any (is_triple s p o) quads) h
    (λ e.
    let es : s ≡ x.subject = same_term_is s x.subject (and_left _ _ e) in
    let rest = and_right (same_term s x.subject) _ e in
    let ep : p ≡ x.predicate = same_term_is p x.predicate (and_left _ _ rest) in
    let eo : o ≡ x.object = same_term_is o x.object (and_right (same_term p x.predicate) _ rest) in
    or_cases (same_term t s) _ k
    (λ a. or_left (same_term t x.subject) _ (ap (same_term t) (sym es) ∙ a))
    (λ b. or_right (same_term t x.subject) _ (or_cases (same_term t p) (same_term t o) b
    (λ a. or_left (same_term t x.predicate) _ (ap (same_term t) (sym ep) ∙ a))
    (λ a. or_right (same_term t x.predicate) _ (or_left (same_term t x.object) _ (ap (same_term t) (sym eo) ∙ a))))))
    (λ e. or_right (same_term t x.subject) _ (or_right (same_term t x.predicate) _ (or_right (same_term t x.object) _ (terms_held quads s p o t e k))))

at_place : (w : Mapping) (c : ℕ) (o : Option ℕ) (t : Term) → is_at c o ≡ true → value_at w c ≡ Some t → value_in w o ≡ Some t
at_place w c None t h e = cc
at_place w c (Some d) t h e = ap (value_at w) (sym (eqb-true c d h)) ∙ e

at_column : (variables : Variables) (w : Mapping) (c : ℕ) (x : VarOrTerm) (t : Term) → is_column variables c x ≡ true → value_at w c ≡ Some t →
    term_at variables w x ≡ Some t
at_column variables w c (Variable name) t h e = at_place w c (column variables name) t h e
at_column variables w c (Hidden number) t h e = at_place w c (Some (length variables + number)) t h e
at_column variables w c (Fixed u) t h e = cc

holds_term : (quads : List QuadParts) (s q o : Option Term) (t : Term) → holds quads s q o ≡ true →
    ((s ≡ Some t) ⊎ ((q ≡ Some t) ⊎ (o ≡ Some t))) → list_any (same_term t) (all_terms quads) ≡ true
holds_term quads (Some s) (Some q) (Some o) t h (inl e) =
    terms_held quads s q o t h (or_left (same_term t s) _ (ap (λ (z : Term). same_term z s) (some_is e) ∙ same_term_own s))
holds_term quads (Some s) (Some q) (Some o) t h (inr (inl e)) =
    terms_held quads s q o t h
    (or_right (same_term t s) _ (or_left (same_term t q) _ (ap (λ (z : Term). same_term z q) (some_is e) ∙ same_term_own q)))
holds_term quads (Some s) (Some q) (Some o) t h (inr (inr e)) =
    terms_held quads s q o t h
    (or_right (same_term t s) _ (or_right (same_term t q) _ (ap (λ (z : Term). same_term z o) (some_is e) ∙ same_term_own o)))
holds_term quads (Some s) (Some q) None t h e = cc
holds_term quads (Some s) None o t h e = cc
holds_term quads None q o t h e = cc

abbrev in_triple : Variables → TriplePattern → ℕ → Bool
in_triple variables p c = is_column variables c p.subject || (is_column variables c (var_or_term p.predicate) || is_column variables c p.object)

pub solution_term : (variables : Variables) (quads : List QuadParts) (w : Mapping) (c : ℕ) (t : Term) → value_at w c ≡ Some t → (ps : List TriplePattern) →
    list_all (instance_lies variables quads w) ps ≡ true → occurs variables ps c ≡ true → list_any (same_term t) (all_terms quads) ≡ true
solution_term variables quads w c t e [] l h = cc
solution_term variables quads w c t e (p ∷ ps) l h =
    let here : instance_lies variables quads w p ≡ true = and_left _ _ l in
    let found = holds_term quads (term_at variables w p.subject) (term_at variables w (var_or_term p.predicate)) (term_at variables w p.object) t here in
    or_cases (in_triple variables p c) (occurs variables ps c) h
    (λ a. or_cases (is_column variables c p.subject) _ a
    (λ b. found (inl (at_column variables w c p.subject t b e)))
    (λ b. or_cases (is_column variables c (var_or_term p.predicate)) (is_column variables c p.object) b
    (λ d. found (inr (inl (at_column variables w c (var_or_term p.predicate) t d e))))
    (λ d. found (inr (inr (at_column variables w c p.object t d e))))))
    (λ a. solution_term variables quads w c t e ps (and_right (instance_lies variables quads w p) _ l) a)

own_length : (w : Mapping) → has_length (length w) w ≡ true
own_length [] = refl
own_length (x ∷ w) = own_length w

module _ (variables : Variables) (quads : List QuadParts) (n : ℕ) (ps : List TriplePattern) where
  solving : (w : Mapping) →
      count_by (same_mapping w) (filter (solves variables quads ps) (all_mappings n (terms_of quads))) ≡ one (solves variables quads ps w && within n (terms_of quads) w)
  solving w =
      sum_by-filter (λ x. cond (same_mapping w x) 1 0) (solves variables quads ps) (all_mappings n (terms_of quads))
      ∙ sum_by-cong (λ x. cond (solves variables quads ps x) (cond (same_mapping w x) 1 0) 0) (λ x. one (same_mapping w x && solves variables quads ps w)) (all_mappings n (terms_of quads))
      (λ x. at_same x (same_mapping w x) refl)
      ∙ sum_of_tests (same_mapping w) (solves variables quads ps w) (all_mappings n (terms_of quads))
      ∙ ap (λ k. cond (solves variables quads ps w) k 0) (mappings_count (terms_of quads) (λ t. distinct_once t (all_terms quads)) n w)
      ∙ cond_one (solves variables quads ps w) (within n (terms_of quads) w)
    where
      at_none : (b : Bool) → cond b (one false) (one false) ≡ one false
      at_none true = refl
      at_none false = refl

      at_same : (x : Mapping) (b : Bool) → same_mapping w x ≡ b → cond (solves variables quads ps x) (one b) 0 ≡ one (b && solves variables quads ps w)
      at_same x true e = ap (λ (z : Mapping). one (solves variables quads ps z)) (sym (same_mapping_is w x e))
      at_same x false e = at_none (solves variables quads ps x)

  within_is_length : (w : Mapping) → (solves variables quads ps w && within n (terms_of quads) w) ≡ (has_length n w && solves variables quads ps w)
  within_is_length w = by_test (list_all (instance_lies variables quads w) ps) (binds_exactly (occurs variables ps) w) refl refl
    where
      in_graph : list_all (instance_lies variables quads w) ps ≡ true → binds_exactly (occurs variables ps) w ≡ true → (c : ℕ) (t : Term) → value_at w c ≡ Some t →
          list_any (same_term t) (terms_of quads) ≡ true
      in_graph l b c t e = any_distinct t (all_terms quads) ∙ solution_term variables quads w c t e ps l (binds_at (occurs variables ps) w c t b e)

      by_test : (l b : Bool) → list_all (instance_lies variables quads w) ps ≡ l → binds_exactly (occurs variables ps) w ≡ b →
          ((l && b) && within n (terms_of quads) w) ≡ (has_length n w && (l && b))
      by_test true true hl hb = covered n (terms_of quads) w (in_graph hl hb) ∙ sym (and_true (has_length n w))
      by_test true false hl hb = sym (and_false (has_length n w))
      by_test false b hl hb = sym (and_false (has_length n w))

  -- a mapping of all columns that solves the pattern is counted once, and no other mapping is
  pub solving_count : (w : Mapping) →
      count_by (same_mapping w) (filter (solves variables quads ps) (all_mappings n (terms_of quads))) ≡ one (has_length n w && solves variables quads ps w)
  solving_count w = solving w ∙ ap one (within_is_length w)

pub assignments_count : (variables : Variables) (quads : List QuadParts) (b : BasicGraphPattern) (w : Mapping) →
    count_by (same_mapping w) (assignments variables quads b) ≡ one (has_length (length variables + b.hidden) w && solves variables quads b.triples w)
assignments_count variables quads b w = solving_count variables quads (length variables + b.hidden) b.triples w
