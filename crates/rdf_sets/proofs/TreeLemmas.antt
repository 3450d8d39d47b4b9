-- What a search tree's contracts say of the set of its items.
use Rattle.std.proofs.Common.{◌≡◌, Bool, true, false, cond, not, ◌&&◌, ◌||◌, List, [], ◌∷◌, refl, sym, ap, ◌∙◌, subst}
use Rattle.std.specs.Prelude.{map}
use Rattle.std.specs.declared.cmp.Ordering.{Ordering}
use Rattle.std.specs.declared.cmp.Ordering.TheVariants.{Less, Equal, Greater}
use Rattle.std.specs.Ordering.{eq_by_cmp, is_eq, ordering_reverse}
use Rattle.std.specs.Cmp.{IsTotalOrder}
use Rattle.std.specs.List.{list_any}
use Rattle.std.specs.List.Sorted.{IsStrictlySortedBy}
use Rattle.std.specs.FinSet.{contains, from_list, insert, remove, IsAntisymmetric, same_set, contains-insert, contains-remove}
use Rattle.rdf_sets.proofs.SortedLemmas.{has_of}

same_reversed : (r : Ordering) → is_eq (ordering_reverse r) ≡ is_eq r
same_reversed Less = refl
same_reversed Equal = refl
same_reversed Greater = refl

put_in : (e a : Bool) → cond e true a ≡ (e || a)
put_in true a = refl
put_in false a = refl

put_out : (e a : Bool) → cond e false a ≡ (not e && a)
put_out true a = refl
put_out false a = refl

pub map_same : {A : Type 0} (xs : List A) → map (λ x. x) xs ≡ xs
map_same [] = refl
map_same (x ∷ xs) = ap (λ l. x ∷ l) (map_same xs)

module _ {K : Type 0} {C R : K → K → Ordering} (same : C ≡ R) (o : IsTotalOrder R) (apart : IsAntisymmetric R) where
  abbrev finds : (K → K → Ordering) → K → List K → Bool
  finds cmp x keys = list_any (eq_by_cmp cmp x) keys

  pub tree_has : (keys : List K) (x : K) → finds C x keys ≡ contains (from_list {R = R} keys) x
  tree_has keys x = ap (λ cmp. finds cmp x keys) same ∙ sym (has_of o apart keys x)

  pub tree_rises : (keys : List K) → IsStrictlySortedBy C keys → IsStrictlySortedBy R keys
  tree_rises keys s = subst (λ cmp. IsStrictlySortedBy cmp keys) same s

  tie_turned : (x q : K) → eq_by_cmp C x q ≡ eq_by_cmp R q x
  tie_turned x q = ap (λ cmp. eq_by_cmp cmp x q) same ∙ ap is_eq (o.antisymm x q) ∙ same_reversed (R q x)

  pub tree_insert : (old new : List K) (x : K) → ((q : K) → finds C q new ≡ cond (eq_by_cmp C x q) true (finds C q old)) → from_list {R = R} new ≡ insert (from_list old) x
  tree_insert old new x u = same_set o apart _ _ (λ q.
      sym (tree_has new q) ∙ u q ∙ put_in (eq_by_cmp C x q) (finds C q old)
      ∙ (λ i. tie_turned x q i || tree_has old q i) ∙ sym (contains-insert o (from_list old) x q))

  pub tree_remove : (old new : List K) (x : K) → ((q : K) → finds C q new ≡ cond (eq_by_cmp C x q) false (finds C q old)) → from_list {R = R} new ≡ remove (from_list old) x
  tree_remove old new x u = same_set o apart _ _ (λ q.
      sym (tree_has new q) ∙ u q ∙ put_out (eq_by_cmp C x q) (finds C q old)
      ∙ (λ i. not (tie_turned x q i) && tree_has old q i) ∙ sym (contains-remove o (from_list old) x q))
