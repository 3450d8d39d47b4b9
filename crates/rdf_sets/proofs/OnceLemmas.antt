-- Lists that are brought in order and whose repeats are left out.
use Rattle.std.proofs.Common.{◌≡◌, Bool, true, false, cond, ◌||◌, List, [], ◌∷◌, refl, sym, ap, ◌∙◌}
use mathlib.Core.Bool.{true≢false}
use Rattle.std.specs.Prelude.{IsPermutation}
use Rattle.std.specs.List.{dedup, dedup_from}
use Rattle.std.specs.declared.cmp.Ordering.{Ordering}
use Rattle.std.specs.Ordering.{eq_by_cmp}
use Rattle.std.specs.Cmp.{IsTotalOrder}
use Rattle.std.proofs.lemmas.List.Sorted.{list_any-IsPermutation}
use Rattle.std.specs.FinSet as set
use Rattle.std.specs.FinSet.{from_list, IsAntisymmetric, same_set}
use Rattle.rdf_sets.proofs.SortedLemmas.{has, has_of, tie_same}

or_twice : (a b h : Bool) → a ≡ b → (a || h) ≡ (a || (b || h))
or_twice true b h e = refl
or_twice false true h e = absurd (true≢false (sym e))
or_twice false false h e = refl

module _ {K : Type 0} {R : K → K → Ordering} (o : IsTotalOrder R) (apart : IsAntisymmetric R) (E : K → K → Bool) (ties : (x y : K) → E x y ≡ eq_by_cmp R x y) where
  has-dedup_from : (q k : K) (xs : List K) → has o apart q (dedup_from E k xs) ≡ (eq_by_cmp R q k || has o apart q xs)
  has-dedup_from q k [] = refl
  has-dedup_from q k (x ∷ xs) =
      elim (E x k) as (λ b. E x k ≡ b → has o apart q (cond b (dedup_from E k xs) (k ∷ dedup_from E x xs)) ≡ (eq_by_cmp R q k || (eq_by_cmp R q x || has o apart q xs))) [
        | true ↦ λ e. has-dedup_from q k xs ∙ or_twice (eq_by_cmp R q k) (eq_by_cmp R q x) (has o apart q xs) (ap (eq_by_cmp R q) (sym (tie_same o apart x k (sym (ties x k) ∙ e))))
        | false ↦ λ _. ap (λ b. eq_by_cmp R q k || b) (has-dedup_from q x xs)
      ] refl

  has-dedup : (q : K) (xs : List K) → has o apart q (dedup E xs) ≡ has o apart q xs
  has-dedup q [] = refl
  has-dedup q (x ∷ xs) = has-dedup_from q x xs

  -- the same items, in any order and as often as may be
  pub same_items : (xs ys zs : List K) → IsPermutation xs ys → zs ≡ dedup E ys → from_list {R = R} zs ≡ from_list xs
  same_items xs ys zs p e = same_set o apart _ _ (λ q.
      has_of o apart zs q ∙ ap (has o apart q) e ∙ has-dedup q ys ∙ sym (list_any-IsPermutation (eq_by_cmp R q) xs ys p) ∙ sym (has_of o apart xs q))
