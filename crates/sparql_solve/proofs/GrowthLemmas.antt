-- What a match of one triple pattern makes of a mapping, seen from a mapping that grows from it.
use Rattle.std.proofs.Common.{◌≡◌, ℕ, ◌+◌, zero, suc, Bool, true, false, cond, ◌&&◌, ◌||◌, [], ◌∷◌, Option, Some, None, refl, sym, ap, ◌∙◌, eqb, length}
use Rattle.std.proofs.Math.Dec.{eqb-zero-suc, eqb-suc-zero, eqb-suc-suc}
use Rattle.std.specs.Prelude.{slice_get, option_and_then}
use Rattle.rdf_terms.specs.Quad.{QuadParts}
use Rattle.rdf_terms.specs.declared.term.Term.{Term}
use Rattle.sparql_trees.specs.declared.pattern.TriplePattern.{TriplePattern}
use Rattle.sparql_trees.specs.declared.pattern.VarOrTerm.{VarOrTerm}
use Rattle.sparql_trees.specs.declared.pattern.VarOrTerm.TheVariants as x
use Rattle.sparql_values.specs.Mapping.{Variables, Mapping, same_term, value_at, value_in, column}
use Rattle.sparql_algebra.specs.Solutions.{var_or_term, term_at, is_at, is_column}
use Rattle.sparql_algebra.specs.Growth.{value_grows, grows}
use Rattle.sparql_algebra.proofs.CallerLemmas.{and_false, and_swap, and_assoc, same_term_is}
use Rattle.sparql_solve.specs.Matching.{place_by, place_of, places_of, assigned_at, assigned, matched}

-- a test of what an `Option` holds
abbrev pub opt : {A : Type 0} → Option A → (A → Bool) → Bool
opt None f = false
opt (Some x) f = f x

pub opt_and : {A : Type 0} (b : Bool) (o : Option A) (f : A → Bool) → opt o (λ x. b && f x) ≡ (b && opt o f)
opt_and b None f = sym (and_false b)
opt_and b (Some x) f = refl

opt_cong : {A : Type 0} (o : Option A) (f g : A → Bool) → ((x : A) → f x ≡ g x) → opt o f ≡ opt o g
opt_cong None f g e = refl
opt_cong (Some x) f g e = e x

opt_bind : {A B : Type 0} (o : Option A) (h : A → Option B) (f : B → Bool) → opt (option_and_then h o) f ≡ opt o (λ x. opt (h x) f)
opt_bind None h f = refl
opt_bind (Some x) h f = refl

opt_test : {A : Type 0} (b : Bool) (x : A) (f : A → Bool) → opt (cond b (Some x) None) f ≡ (b && f x)
opt_test true x f = refl
opt_test false x f = refl

pub grows_cong : (f g : ℕ → Bool) (m w : Mapping) → ((c : ℕ) → f c ≡ g c) → grows f m w ≡ grows g m w
grows_cong f g [] [] e = refl
grows_cong f g [] (y ∷ w) e = refl
grows_cong f g (x ∷ m) [] e = refl
grows_cong f g (x ∷ m) (y ∷ w) e =
    ap (λ b. value_grows x y b && grows (λ c. f (suc c)) m w) (e zero)
    ∙ ap (λ b. value_grows x y (g zero) && b) (grows_cong (λ c. f (suc c)) (λ c. g (suc c)) m w (λ c. e (suc c)))

abbrev pub is_term : Option Term → Term → Bool
is_term None u = false
is_term (Some t) u = same_term t u

swap_same : (t u v : Term) (G : Bool) → (same_term t u && (same_term v t && G)) ≡ (same_term v u && (same_term v t && G))
swap_same t u v G = by_test (same_term v t) refl
  where
    by_test : (b : Bool) → same_term v t ≡ b → (same_term t u && (b && G)) ≡ (same_term v u && (b && G))
    by_test true e = ap (λ (z : Term). same_term z u && G) (sym (same_term_is v t e))
    by_test false e = and_false (same_term t u) ∙ sym (and_false (same_term v u))

never_ends : (test : ℕ → Bool) (x : Option Term) (m : Mapping) (c : ℕ) (u : Term) (o : Option (Option Term)) →
    opt (assigned_at (x ∷ m) c u o) (λ k. grows test k []) ≡ false
never_ends test x m c u None = refl
never_ends test x m zero u (Some None) = refl
never_ends test x m (suc c) u (Some None) = refl
never_ends test x m c u (Some (Some t)) = opt_test (same_term t u) (x ∷ m) (λ k. grows test k []) ∙ and_false (same_term t u)

shifted : (test : ℕ → Bool) (x y : Option Term) (m w : Mapping) (c : ℕ) (u : Term) (o : Option (Option Term)) →
    opt (assigned_at (x ∷ m) (suc c) u o) (λ k. grows test k (y ∷ w))
    ≡ (value_grows x y (test zero) && opt (assigned_at m c u o) (λ k. grows (λ d. test (suc d)) k w))
shifted test x y m w c u None = sym (and_false (value_grows x y (test zero)))
shifted test x y m w c u (Some None) = refl
shifted test x y m w c u (Some (Some t)) =
    opt_test (same_term t u) (x ∷ m) (λ k. grows test k (y ∷ w))
    ∙ and_swap (same_term t u) (value_grows x y (test zero)) (grows (λ d. test (suc d)) m w)
    ∙ ap (λ b. value_grows x y (test zero) && b) (sym (opt_test (same_term t u) m (λ k. grows (λ d. test (suc d)) k w)))

column_grows : (test : ℕ → Bool) (m w : Mapping) (c : ℕ) (u : Term) →
    opt (assigned_at m c u (slice_get m c)) (λ k. grows test k w) ≡ (is_term (value_at w c) u && grows (λ d. eqb d c || test d) m w)
column_grows test [] [] c u = refl
column_grows test [] (y ∷ w) c u = sym (and_false (is_term (value_at (y ∷ w) c) u))
column_grows test (x ∷ m) [] c u = never_ends test x m c u (slice_get (x ∷ m) c)
column_grows test (Some t ∷ m) (None ∷ w) zero u = opt_test (same_term t u) (Some t ∷ m) (λ k. grows test k (None ∷ w)) ∙ and_false (same_term t u)
column_grows test (Some t ∷ m) (Some v ∷ w) zero u =
    opt_test (same_term t u) (Some t ∷ m) (λ k. grows test k (Some v ∷ w))
    ∙ swap_same t u v (grows (λ d. test (suc d)) m w)
    ∙ ap (λ b. same_term v u && (same_term v t && b)) (grows_cong (λ d. test (suc d)) (λ d. eqb (suc d) zero || test (suc d)) m w (λ d. ap (λ b. b || test (suc d)) (sym (eqb-suc-zero d))))
column_grows test (None ∷ m) (None ∷ w) zero u = refl
column_grows test (None ∷ m) (Some v ∷ w) zero u =
    ap (λ b. same_term v u && b) (grows_cong (λ d. test (suc d)) (λ d. eqb (suc d) zero || test (suc d)) m w (λ d. ap (λ b. b || test (suc d)) (sym (eqb-suc-zero d))))
column_grows test (x ∷ m) (y ∷ w) (suc c) u =
    shifted test x y m w c u (slice_get m c)
    ∙ ap (λ b. value_grows x y (test zero) && b) (column_grows (λ d. test (suc d)) m w c u)
    ∙ and_swap (value_grows x y (test zero)) (is_term (value_at w c) u) (grows (λ d. eqb d c || test (suc d)) m w)
    ∙ ap (λ b. is_term (value_at w c) u && (value_grows x y (b || test zero) && grows (λ d. eqb d c || test (suc d)) m w)) (sym (eqb-zero-suc c))
    ∙ ap (λ b. is_term (value_at w c) u && (value_grows x y (eqb zero (suc c) || test zero) && b))
    (grows_cong (λ d. eqb d c || test (suc d)) (λ d. eqb (suc d) (suc c) || test (suc d)) m w (λ d. ap (λ b. b || test (suc d)) (sym (eqb-suc-suc d c))))

-- a variable by its column
by_column : (test : ℕ → Bool) (m w : Mapping) (o : Option ℕ) (u : Term) →
    opt (assigned m (place_by o) u) (λ k. grows test k w) ≡ (is_term (value_in w o) u && grows (λ d. is_at d o || test d) m w)
by_column test m w None u = refl
by_column test m w (Some c) u = column_grows test m w c u

assigned_grows : (vs : Variables) (test : ℕ → Bool) (m w : Mapping) (p : VarOrTerm) (u : Term) →
    opt (assigned m (place_of vs p) u) (λ k. grows test k w) ≡ (is_term (term_at vs w p) u && grows (λ d. is_column vs d p || test d) m w)
assigned_grows vs test m w (x.Term t) u = opt_test (same_term t u) m (λ k. grows test k w)
assigned_grows vs test m w (x.Hidden number) u = column_grows test m w (length vs + number) u
assigned_grows vs test m w (x.Variable name) u = by_column test m w (column vs name) u

-- the quad is the instance of the pattern
abbrev pub is_instance : Variables → Mapping → TriplePattern → QuadParts → Bool
is_instance vs w p q =
    is_term (term_at vs w p.object) q.object && (is_term (term_at vs w p.subject) q.subject && is_term (term_at vs w (var_or_term p.predicate)) q.predicate)

abbrev pub in_pattern : Variables → TriplePattern → ℕ → Bool
in_pattern vs p c = is_column vs c p.subject || (is_column vs c (var_or_term p.predicate) || is_column vs c p.object)

or_turn : (a b c d : Bool) → (b || (a || (c || d))) ≡ ((a || (b || c)) || d)
or_turn true true c d = refl
or_turn true false c d = refl
or_turn false true c d = refl
or_turn false false true d = refl
or_turn false false false d = refl

pub matched_grows : (vs : Variables) (test : ℕ → Bool) (m w : Mapping) (p : TriplePattern) (t : QuadParts) →
    opt (matched (places_of vs p) m t) (λ k. grows test k w) ≡ (is_instance vs w p t && grows (λ c. in_pattern vs p c || test c) m w)
matched_grows vs test m w p t =
    let o = is_term (term_at vs w p.object) t.object in
    let q = is_term (term_at vs w (var_or_term p.predicate)) t.predicate in
    let s = is_term (term_at vs w p.subject) t.subject in
    let t1 : ℕ → Bool = λ c. is_column vs c p.object || test c in
    let t2 : ℕ → Bool = λ c. is_column vs c p.subject || t1 c in
    let t3 : ℕ → Bool = λ c. is_column vs c (var_or_term p.predicate) || t2 c in
    let first = assigned m (place_of vs (var_or_term p.predicate)) t.predicate in
    let second : Mapping → Option Mapping = λ k. assigned k (place_of vs p.subject) t.subject in
    let third : Mapping → Option Mapping = λ l. assigned l (place_of vs p.object) t.object in
    let last : Mapping → Bool = λ k. opt (option_and_then third (second k)) (λ j. grows test j w) in
    let each : (k : Mapping) → last k ≡ (o && (s && grows t2 k w)) = λ k.
    opt_bind (second k) third (λ j. grows test j w)
    ∙ opt_cong (second k) _ _ (λ l. assigned_grows vs test l w p.object t.object)
    ∙ opt_and o (second k) (λ l. grows t1 l w)
    ∙ ap (λ b. o && b) (assigned_grows vs t1 k w p.subject t.subject) in
    let same : (c : ℕ) → t3 c ≡ (in_pattern vs p c || test c) = λ c.
    or_turn (is_column vs c p.subject) (is_column vs c (var_or_term p.predicate)) (is_column vs c p.object) (test c) in
    opt_bind first (λ k. option_and_then third (second k)) (λ j. grows test j w)
    ∙ opt_cong first last (λ k. o && (s && grows t2 k w)) each
    ∙ opt_and o first (λ k. s && grows t2 k w)
    ∙ ap (λ b. o && b) (opt_and s first (λ k. grows t2 k w) ∙ ap (λ b. s && b) (assigned_grows vs t2 m w (var_or_term p.predicate) t.predicate))
    ∙ ap (λ b. o && (s && (q && b))) (grows_cong t3 (λ c. in_pattern vs p c || test c) m w same)
    ∙ ap (λ b. o && b) (sym (and_assoc s q (grows (λ c. in_pattern vs p c || test c) m w)))
    ∙ sym (and_assoc o (s && q) (grows (λ c. in_pattern vs p c || test c) m w))
