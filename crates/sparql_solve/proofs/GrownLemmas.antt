-- What is found under a row that is moved on.
use Rattle.std.proofs.Common.{◌≡◌, ℕ, ◌+◌, zero, suc, Bool, true, false, cond, ◌&&◌, List, [], ◌∷◌, ◌++◌, Option, Some, None, refl, sym, ap, ◌∙◌, length, replicate, arith, append-nil}
use Rattle.std.specs.Prelude.{slice_set}
use Rattle.std.specs.List.{flat_map, sum_by, IsLastAndRest}
use Rattle.std.proofs.lemmas.Grind.{flat_map-append}
use Rattle.std.proofs.lemmas.List.Sums.{sum_by-append}
use Rattle.rdf_terms.specs.declared.term.Term.{Term}
use Rattle.rdf_terms.specs.declared.quad.GraphName.{GraphName}
use Rattle.rdf_terms.specs.declared.quad.GraphName.TheVariants.{Named}
use Rattle.rdf_dataset.specs.State.{State}
use Rattle.sparql_values.specs.Mapping.{Variables, Mapping, agrees, column, compatible, empty_mapping, merge, set_in, single, value_at, value_in}
use Rattle.sparql_algebra.proofs.CallerLemmas.{same_term_is}
use Rattle.sparql_solve.specs.declared.look_ups.LookUp.{LookUp}
use Rattle.sparql_solve.specs.Members.{AreSolutions}
use Rattle.sparql_solve.specs.Sides.{found_in, found_under}

-- ---- the mapping of one variable beside another mapping

fits_nothing : (k : ℕ) (m : Mapping) → compatible m (replicate k None) ≡ true
fits_nothing zero [] = refl
fits_nothing zero (x ∷ m) = refl
fits_nothing (suc k) [] = refl
fits_nothing (suc k) (Some s ∷ m) = fits_nothing k m
fits_nothing (suc k) (None ∷ m) = fits_nothing k m

and_yes : (a b : Bool) → b ≡ true → (a && b) ≡ a
and_yes true b h = h
and_yes false b h = refl

fits_set : (m : Mapping) (k c : ℕ) (u : Term) → length m ≡ k → compatible m (slice_set (replicate k None) c (Some u)) ≡ agrees (value_at m c, Some u)
fits_set [] zero zero u e = refl
fits_set [] zero (suc c) u e = refl
fits_set [] (suc k) c u e = absurd (omega arith)
fits_set (x ∷ m) zero c u e = absurd (omega arith)
fits_set (x ∷ m) (suc k) zero u e = and_yes (agrees (x, Some u)) (compatible m (replicate k None)) (fits_nothing k m)
fits_set (Some s ∷ m) (suc k) (suc c) u e = fits_set m k c u (omega arith)
fits_set (None ∷ m) (suc k) (suc c) u e = fits_set m k c u (omega arith)

single_fits : (vs : Variables) (m : Mapping) (name : List ℕ) (u : Term) → length m ≡ length vs →
    compatible m (single vs name u) ≡ agrees (value_in m (column vs name), Some u)
single_fits vs m name u e = at (column vs name)
  where
    at : (o : Option ℕ) → compatible m (set_in (empty_mapping vs) o u) ≡ agrees (value_in m o, Some u)
    at (Some c) = fits_set m (length vs) c u e
    at None = fits_nothing (length vs) m

nothing_grows : (k : ℕ) (m : Mapping) → length m ≡ k → merge m (replicate k None) ≡ m
nothing_grows zero [] e = refl
nothing_grows zero (x ∷ m) e = absurd (omega arith)
nothing_grows (suc k) [] e = absurd (omega arith)
nothing_grows (suc k) (Some s ∷ m) e = ap (λ (w : Mapping). Some s ∷ w) (nothing_grows k m (omega arith))
nothing_grows (suc k) (None ∷ m) e = ap (λ (w : Mapping). None ∷ w) (nothing_grows k m (omega arith))

set_grows : (m : Mapping) (k c : ℕ) (u : Term) → length m ≡ k → agrees (value_at m c, Some u) ≡ true →
    slice_set m c (Some u) ≡ merge m (slice_set (replicate k None) c (Some u))
set_grows [] zero zero u e h = refl
set_grows [] zero (suc c) u e h = refl
set_grows [] (suc k) c u e h = absurd (omega arith)
set_grows (x ∷ m) zero c u e h = absurd (omega arith)
set_grows (Some s ∷ m) (suc k) zero u e h =
    ap (λ (t : Term). Some t ∷ m) (sym (same_term_is s u h)) ∙ ap (λ (w : Mapping). Some s ∷ w) (sym (nothing_grows k m (omega arith)))
set_grows (None ∷ m) (suc k) zero u e h = ap (λ (w : Mapping). Some u ∷ w) (sym (nothing_grows k m (omega arith)))
set_grows (Some s ∷ m) (suc k) (suc c) u e h = ap (λ (w : Mapping). Some s ∷ w) (set_grows m k c u (omega arith) h)
set_grows (None ∷ m) (suc k) (suc c) u e h = ap (λ (w : Mapping). None ∷ w) (set_grows m k c u (omega arith) h)

single_grows : (vs : Variables) (m : Mapping) (name : List ℕ) (u : Term) → length m ≡ length vs → agrees (value_in m (column vs name), Some u) ≡ true →
    set_in m (column vs name) u ≡ merge m (single vs name u)
single_grows vs m name u e h = at (column vs name) h
  where
    at : (o : Option ℕ) → agrees (value_in m o, Some u) ≡ true → set_in m o u ≡ merge m (set_in (empty_mapping vs) o u)
    at (Some c) k = set_grows m (length vs) c u e k
    at None k = sym (nothing_grows (length vs) m e)

-- ---- GRAPH

module _ (vs : Variables) (s : State) (l : LookUp) (name : List ℕ) (m : Mapping) where
  pub grown_name : (n : Term) (o : Option ℕ) (b : Bool) (w : Mapping) (g : GraphName) (out : List Mapping) → o ≡ column vs name →
      b ≡ agrees (value_in m o, Some n) → b ≡ true → w ≡ set_in m o n → g ≡ Named n → AreSolutions s out (λ d. found_in d l g w) →
      length m ≡ length vs → AreSolutions s out (λ d. found_under vs d l name m n)
  grown_name n o b w g out eo eb t ew eg h e d k f =
      let fits : agrees (value_in m (column vs name), Some n) ≡ true = ap (λ (c : Option ℕ). agrees (value_in m c, Some n)) (sym eo) ∙ sym eb ∙ t in
      let is : w ≡ merge m (single vs name n) = ew ∙ ap (λ (c : Option ℕ). set_in m c n) eo ∙ single_grows vs m name n e fits in
      h d k f ∙ ap (λ (v : GraphName). sum_by f (found_in d l v w)) eg ∙ ap (λ (v : Mapping). sum_by f (found_in d l (Named n) v)) is
      ∙ ap (λ c. sum_by f (cond c (found_in d l (Named n) (merge m (single vs name n))) [])) (sym (single_fits vs m name n e ∙ fits))

  pub no_name : (n : Term) (o : Option ℕ) (b : Bool) (out : List Mapping) → o ≡ column vs name → b ≡ agrees (value_in m o, Some n) → b ≡ false → out ≡ [] →
      length m ≡ length vs → AreSolutions s out (λ d. found_under vs d l name m n)
  no_name n o b out eo eb t eo2 e d k f =
      let fits : agrees (value_in m (column vs name), Some n) ≡ false = ap (λ (c : Option ℕ). agrees (value_in m c, Some n)) (sym eo) ∙ sym eb ∙ t in
      ap (sum_by f) eo2 ∙ ap (λ c. sum_by f (cond c (found_in d l (Named n) (merge m (single vs name n))) [])) (sym (single_fits vs m name n e ∙ fits))

  pub last_name : (names others : List Term) (n : Term) (first more out : List Mapping) → IsLastAndRest names n others →
      AreSolutions s first (λ d. flat_map (found_under vs d l name m) others) →
      (length m ≡ length vs → AreSolutions s more (λ d. found_under vs d l name m n)) → out ≡ first ++ more → length m ≡ length vs →
      AreSolutions s out (λ d. flat_map (found_under vs d l name m) names)
  last_name names others n first more out is h r eo e d k f =
      let F : Term → List Mapping = found_under vs d l name m in
      ap (sum_by f) eo ∙ sum_by-append f first more
      ∙ ap (λ x. x + sum_by f more) (h d k f) ∙ ap (λ x. sum_by f (flat_map F others) + x) (r e d k f)
      ∙ ap (λ (ys : List Mapping). sum_by f (flat_map F others) + sum_by f ys) (sym (append-nil (F n)))
      ∙ sym (sum_by-append f (flat_map F others) (flat_map F (n ∷ [])))
      ∙ ap (sum_by f) (sym (flat_map-append F others (n ∷ [])))
      ∙ ap (λ (ns : List Term). sum_by f (flat_map F ns)) (sym is.0)
