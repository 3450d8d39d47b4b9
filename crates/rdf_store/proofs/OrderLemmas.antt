-- Lists of the members of a set, brought in order.
use Rattle.std.proofs.Common.{◌≡◌, ℕ, zero, suc, ◌+◌, ◌<◌, false, List, [], ◌∷◌, length, get_or, refl, sym, ap, ◌∙◌, arith, add-one}
use mathlib.Core.Bool.{true≢false}
use Rattle.std.specs.Prelude.{IsSorted, IsPermutation}
use Rattle.std.specs.declared.cmp.Ordering.{Ordering}
use Rattle.std.specs.declared.cmp.Ordering.TheVariants.{Less, Equal, Greater}
use Rattle.std.specs.Ordering.{eq_by_cmp, is_lt, ordering_reverse}
use Rattle.std.specs.Cmp.{IsTotalOrder}
use Rattle.std.specs.List.Sorted.{IsStrictlySortedBy}
use Rattle.std.specs.FinSet as set
use Rattle.std.specs.FinSet.{IsAntisymmetric, same_set, contains-from_list, contains-insert}
use Rattle.std.proofs.lemmas.List.Sorted.{length_permutation, list_any-IsPermutation}
use Rattle.std.proofs.lemmas.Map.Keys.{sorted_from_all_adjacent}
use Rattle.rdf_terms.specs.Lists.{ListsOnce, ListsSorted}
use Rattle.rdf_orders.proofs.CallerLemmas.{either_first}
use Rattle.rdf_store.proofs.ImageLemmas.{eq_of_same, once_tail}

-- what is neither above nor a tie is below
below : (r s : Ordering) → r ≡ ordering_reverse s → is_lt s ≡ false → (r ≡ Equal → ⊥) → r ≡ Less
below Less s e above tie = refl
below Equal s e above tie = absurd (tie refl)
below Greater Less e above tie = absurd (true≢false above)
below Greater Equal e above tie = cc
below Greater Greater e above tie = cc

rising_nothing : {K : Type 0} (R : K → K → Ordering) → IsStrictlySortedBy R []
unfolding IsStrictlySortedBy
rising_nothing R = tt

module _ {K : Type 0} {R : K → K → Ordering} (o : IsTotalOrder R) (apart : IsAntisymmetric R) where
  abbrev Once : List K → Type 0
  Once xs = length xs ≡ set.len (set.from_list {R = R} xs)

  next_differs : (xs : List K) (k : ℕ) (d : K) → Once xs → suc k < length xs → get_or xs k d ≡ get_or xs (suc k) d → ⊥
  next_differs [] k d once lt e = absurd (omega arith)
  next_differs (x ∷ []) k d once lt e = absurd (omega arith)
  next_differs (x ∷ (y ∷ ys)) zero d once lt e =
      true≢false (sym (contains-insert o (set.from_list ys) y x ∙ either_first _ _ (eq_of_same o apart x y e)) ∙ (once_tail o apart x (y ∷ ys) once).0)
  next_differs (x ∷ (y ∷ ys)) (suc k) d once lt e = next_differs (y ∷ ys) k d (once_tail o apart x (y ∷ ys) once).1 (omega arith) e

  rises : (xs : List K) → Once xs → IsSorted R xs → IsStrictlySortedBy R xs
  rises [] once s = rising_nothing R
  rises (x ∷ xs) once s = sorted_from_all_adjacent o (x ∷ xs) x (λ k lt.
      let a = get_or (x ∷ xs) k x in
      let b = get_or (x ∷ xs) (k + 1) x in
      below (R a b) (R b a) (o.antisymm a b) (s k x (omega arith) lt) (λ e. next_differs (x ∷ xs) k x once (omega arith) (apart a b e ∙ ap (λ j. get_or (x ∷ xs) j x) (add-one k))))

  pub listed_in_order : (members : set.FinSet R) (xs ys : List K) → ListsOnce members xs → IsPermutation xs ys → IsSorted R ys → ListsSorted members ys
  listed_in_order members xs ys l p s =
      let all : set.from_list {R = R} ys ≡ members =
      same_set o apart _ _ (λ q. contains-from_list o ys q ∙ sym (list_any-IsPermutation (eq_by_cmp R q) xs ys p) ∙ sym (contains-from_list o xs q)) ∙ l.all in
      let once : length ys ≡ set.len members = length_permutation xs ys p ∙ l.once in
      record { lists = record { all = all; once = once }; rises = rises ys (once ∙ ap set.len (sym all)) s }
