-- Two rising lists, and what stands in both.
use Rattle.std.proofs.Common.{◌≡◌, ℕ, ◌+◌, ◌<◌, Bool, true, false, cond, not, ◌&&◌, List, [], ◌∷◌, ◌++◌, length, take, get_or, refl, sym, ap, ◌∙◌}
use Rattle.std.proofs.lemmas.List.{append-nil}
use Rattle.std.proofs.lemmas.List.Elements.{filter_more}
use Rattle.std.specs.Prelude.{filter}
use Rattle.std.specs.declared.cmp.Ordering.{Ordering}
use Rattle.std.specs.Cmp.{IsTotalOrder}
use Rattle.std.specs.FinSet as set
use Rattle.std.specs.FinSet.{contains, from_list, IsAntisymmetric, same_set, contains-difference, contains-empty, difference}
use Rattle.rdf_sets.proofs.SortedLemmas.{filter_contains}

one_out : (a b : Bool) → (a && not (a && b)) ≡ (a && not b)
one_out true b = refl
one_out false b = refl

other_out : (a b : Bool) → (b && not (a && b)) ≡ (b && not a)
other_out true true = refl
other_out true false = refl
other_out false true = refl
other_out false false = refl

and_true : (a : Bool) → a ≡ (a && true)
and_true true = refl
and_true false = refl

-- nothing is taken out
pub difference_nothing : {K : Type 0} {R : K → K → Ordering} (o : IsTotalOrder R) → IsAntisymmetric R → (s t : set.FinSet R) → t ≡ set.empty → s ≡ difference s t
difference_nothing {R = R} o apart s t e = same_set o apart _ _ (λ q.
    and_true (contains s q) ∙ ap (λ b. contains s q && not b) (sym (ap (λ z. contains z q) e ∙ contains-empty R q)) ∙ sym (contains-difference o s t q))

module _ {K : Type 0} {R : K → K → Ordering} (o : IsTotalOrder R) (apart : IsAntisymmetric R) (a b common : List K) (e : common ≡ filter (λ x. contains (from_list {R = R} b) x) a) where
  common_at : (q : K) → contains (from_list {R = R} common) q ≡ (contains (from_list {R = R} a) q && contains (from_list {R = R} b) q)
  common_at q = ap (λ l. contains (from_list {R = R} l) q) e ∙ filter_contains o apart (λ x. contains (from_list {R = R} b) x) a q

  -- the first list without these is without all of the second
  pub out_of_one : (s : set.FinSet R) → s ≡ difference (from_list a) (from_list common) → s ≡ difference (from_list a) (from_list b)
  out_of_one s h = h ∙ same_set o apart _ _ (λ q.
      contains-difference o (from_list a) (from_list common) q
      ∙ ap (λ v. contains (from_list {R = R} a) q && not v) (common_at q)
      ∙ one_out (contains (from_list {R = R} a) q) (contains (from_list {R = R} b) q)
      ∙ sym (contains-difference o (from_list a) (from_list b) q))

  -- and the second without all of the first
  pub out_of_other : (s : set.FinSet R) → s ≡ difference (from_list b) (from_list common) → s ≡ difference (from_list b) (from_list a)
  out_of_other s h = h ∙ same_set o apart _ _ (λ q.
      contains-difference o (from_list b) (from_list common) q
      ∙ ap (λ v. contains (from_list {R = R} b) q && not v) (common_at q)
      ∙ other_out (contains (from_list {R = R} a) q) (contains (from_list {R = R} b) q)
      ∙ sym (contains-difference o (from_list b) (from_list a) q))

-- ---- a list's items by a test, one after another

module _ {X : Type 0} (p : X → Bool) (xs out : List X) (i : ℕ) (x : X) (h : i < length xs) (is : x ≡ get_or xs i x) (so_far : out ≡ filter p (take i xs)) where
  next_is : (b : Bool) → p x ≡ b → filter p (take (i + 1) xs) ≡ out ++ cond b (x ∷ []) []
  next_is b e = filter_more p xs i x h ∙ (λ t. sym so_far t ++ cond (p (sym is t)) (sym is t ∷ []) []) ∙ ap (λ c. out ++ cond c (x ∷ []) []) e

  pub next_in : (new : List X) → p x ≡ true → new ≡ out ++ x ∷ [] → new ≡ filter p (take (i + 1) xs)
  next_in new e n = n ∙ sym (next_is true e)

  pub next_out : p x ≡ false → out ≡ filter p (take (i + 1) xs)
  next_out e = sym (next_is false e ∙ append-nil out)
