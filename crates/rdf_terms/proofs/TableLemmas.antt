-- What a set of terms by the code's `==` is as a table.
use Rattle.std.proofs.Common.{◌≡◌, refl, sym, ap, subst, ◌∙◌, ◌⊎◌, inl, inr, ℕ, ◌<◌, Bool, true, false, cond, ◌||◌, List, [], ◌∷◌, ◌++◌, get_or, Some, position}
use Rattle.std.specs.Bool.{Decides}
use Rattle.std.specs.List.{list_any, IsDistinct}
use Rattle.std.specs.Ordering.{eq_by_cmp, is_eq}
use Rattle.std.specs.Cmp.{Equal-is, tied_itself}
use Rattle.std.proofs.lemmas.Bool.{cases_order}
use Rattle.std.proofs.lemmas.List.Quantifiers.{position-Some}
use Rattle.std.proofs.lemmas.Map.Made.{AllPairs-from_IsDistinct}
use Rattle.std.proofs.lemmas.Option.{slice_get-get_or, slice_get_within, get_or_from_slice_get}
use Rattle.rdf_terms.specs.Order.{term_cmp}
use Rattle.rdf_terms.specs.OrderLaws.{term_cmp_total, term_cmp-IsAntisymmetric}
use Rattle.rdf_terms.specs.Table.{IsIdOf, AreHeldOnce, is_held, with_term}
use Rattle.rdf_terms.specs.declared.term.Term.{Term}
use Rattle.rdf_terms.proofs.TermEq.{term_eq, term_eq-same, term_eq-own}

decides_eq : (a b : Term) → Decides (term_eq a b) (a ≡ b)
decides_eq a b = (term_eq-same a b, λ e. subst (λ x. term_eq a x ≡ true) e (term_eq-own a))

decides_tie : (a b : Term) → Decides (eq_by_cmp term_cmp a b) (a ≡ b)
decides_tie a b = (
  λ h. term_cmp-IsAntisymmetric a b ((Equal-is (term_cmp a b)).0 h),
  λ e. subst (λ x. eq_by_cmp term_cmp a x ≡ true) e (ap is_eq (tied_itself term_cmp_total a)),
)

alike : {P : Type 0} (x y : Bool) → Decides x P → Decides y P → x ≡ y
alike true true p q = refl
alike true false p q = sym (q.1 (p.0 refl))
alike false true p q = p.1 (q.0 refl)
alike false false p q = refl

tie : (a b : Term) → term_eq a b ≡ eq_by_cmp term_cmp a b
tie a b = alike (term_eq a b) (eq_by_cmp term_cmp a b) (decides_eq a b) (decides_tie a b)

-- whether a set has a term
pub held : (terms : List Term) (t : Term) → list_any (term_eq t) terms ≡ is_held terms t
held [] t = refl
held (x ∷ xs) t = λ i. tie t x i || held xs t i

-- and what inserting it makes of the set
pub inserted : (terms : List Term) (t : Term) → cond (list_any (term_eq t) terms) terms (terms ++ t ∷ []) ≡ with_term terms t
inserted terms t = ap (λ b. cond b terms (terms ++ t ∷ [])) (held terms t)

-- the place of a term is its id
pub placed : (terms : List Term) (t : Term) (i : ℕ) → position (term_eq t) terms ≡ Some i → IsIdOf terms i t
placed terms t i e =
    let p = position-Some (term_eq t) terms i t e in
    slice_get-get_or terms i t p.0 ∙ ap Some (sym (term_eq-same t (get_or terms i t) p.1))

-- a set holds no term twice
pub held_once : (terms : List Term) → IsDistinct term_eq terms → AreHeldOnce terms
held_once terms h i j t p q = by (cases_order i j)
  where
    apart : (m n : ℕ) → m < n → IsIdOf terms m t → ¬ IsIdOf terms n t
    apart m n lt a b =
        AllPairs-from_IsDistinct decides_eq terms h m n t lt (slice_get_within terms n t b)
        (get_or_from_slice_get terms m t t a ∙ sym (get_or_from_slice_get terms n t t b))

    by : (i ≡ j) ⊎ ((i < j) ⊎ (j < i)) → i ≡ j
    by (inl e) = e
    by (inr (inl lt)) = absurd (apart i j lt p q)
    by (inr (inr lt)) = absurd (apart j i lt q p)
