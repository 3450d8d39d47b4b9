-- The visible variables stand in order, and they are all that the pattern shows.
use Rattle.std.proofs.Common.{◌≡◌, ℕ, Bool, true, false, ◌||◌, List, [], ◌∷◌, refl, sym, ap, ◌∙◌}
use Rattle.std.specs.BTreeSet.{insert_key}
use Rattle.std.specs.FinSet.{IsAntisymmetric, nat_cmp-IsAntisymmetric, slice_cmp-IsAntisymmetric}
use Rattle.std.specs.List.{AllByRecursion, list_any}
use Rattle.std.specs.List.Sorted.{IsStrictlySortedBy}
use Rattle.std.specs.Ordering.{eq_by_cmp, match_ordering, ordering_reverse}
use Rattle.std.specs.Cmp.{IsTotalOrder}
use Rattle.std.specs.Cmp.Lexicographic.{nat_list_cmp_total}
use Rattle.std.specs.declared.cmp.Ordering.{Ordering}
use Rattle.std.specs.declared.cmp.Ordering.TheVariants.{Less, Equal, Greater}
use Rattle.std.proofs.lemmas.Map.Keys.{sorted_head, sorted_tail}
use Rattle.rdf_terms.specs.Order.{text_cmp}
use Rattle.sparql_trees.specs.Visible.{Names, all_names_in, names_in, with_names, named, visible}
use Rattle.sparql_algebra.specs.Laws.{VariablesInOrder, VariablesAreAll, NamedInOrder, NamedAreAll}
use Rattle.sparql_algebra.proofs.TruthLemmas.{or_false, or_assoc}

or_swap : (a b c : Bool) → (a || (b || c)) ≡ (b || (a || c))
or_swap true true c = refl
or_swap true false c = refl
or_swap false b c = refl

or_again : (a b : Bool) → (a || b) ≡ (a || (a || b))
or_again true b = refl
or_again false b = refl

module _ {K : Type 0} {R : K → K → Ordering} (o : IsTotalOrder R) (apart : IsAntisymmetric R) where
  sorted_cons : (x : K) (xs : List K) → AllByRecursion (λ y. R x y ≡ Less) xs → IsStrictlySortedBy R xs → IsStrictlySortedBy R (x ∷ xs)
  unfolding IsStrictlySortedBy
  sorted_cons x xs b s = (b, s)

  sorted_nil : IsStrictlySortedBy R []
  unfolding IsStrictlySortedBy
  sorted_nil = tt

  all_put : (P : K → Type 0) (xs : List K) (k : K) → AllByRecursion P xs → P k → AllByRecursion P (insert_key R xs k)
  all_put P [] k a p = (p, tt)
  all_put P (x ∷ xs) k a p = by_case (R k x) (all_put P xs k a.1 p)
    where
      by_case : (r : Ordering) → AllByRecursion P (insert_key R xs k) → AllByRecursion P (match_ordering r (k ∷ x ∷ xs) (x ∷ xs) (x ∷ insert_key R xs k))
      by_case Less h = (p, a)
      by_case Equal h = a
      by_case Greater h = (a.0, h)

  lower : (k x : K) → R k x ≡ Less → (xs : List K) → AllByRecursion (λ y. R x y ≡ Less) xs → AllByRecursion (λ y. R k y ≡ Less) xs
  lower k x e [] a = tt
  lower k x e (y ∷ xs) a = (o.trans k x y e a.0, lower k x e xs a.1)

  put_sorted : (xs : List K) (k : K) → IsStrictlySortedBy R xs → IsStrictlySortedBy R (insert_key R xs k)
  put_sorted [] k s = sorted_cons k [] tt sorted_nil
  put_sorted (x ∷ xs) k s = by_case (R k x) refl (put_sorted xs k (sorted_tail R x xs s))
    where
      by_case : (r : Ordering) → R k x ≡ r → IsStrictlySortedBy R (insert_key R xs k) →
          IsStrictlySortedBy R (match_ordering r (k ∷ x ∷ xs) (x ∷ xs) (x ∷ insert_key R xs k))
      by_case Less e h = sorted_cons k (x ∷ xs) (e, lower k x e xs (sorted_head R x xs s)) s
      by_case Equal e h = s
      by_case Greater e h =
          sorted_cons x (insert_key R xs k) (all_put (λ y. R x y ≡ Less) xs k (sorted_head R x xs s) (o.antisymm x k ∙ ap ordering_reverse e)) h

  any_put : (q : K) (xs : List K) (k : K) → list_any (eq_by_cmp R q) (insert_key R xs k) ≡ (eq_by_cmp R q k || list_any (eq_by_cmp R q) xs)
  any_put q [] k = refl
  any_put q (x ∷ xs) k = by_case (R k x) refl (any_put q xs k)
    where
      by_case : (r : Ordering) → R k x ≡ r → list_any (eq_by_cmp R q) (insert_key R xs k) ≡ (eq_by_cmp R q k || list_any (eq_by_cmp R q) xs) →
          list_any (eq_by_cmp R q) (match_ordering r (k ∷ x ∷ xs) (x ∷ xs) (x ∷ insert_key R xs k))
          ≡ (eq_by_cmp R q k || (eq_by_cmp R q x || list_any (eq_by_cmp R q) xs))
      by_case Less e h = refl
      by_case Equal e h =
          or_again (eq_by_cmp R q x) (list_any (eq_by_cmp R q) xs)
          ∙ ap (λ (z : K). eq_by_cmp R q z || (eq_by_cmp R q x || list_any (eq_by_cmp R q) xs)) (sym (apart k x e))
      by_case Greater e h = ap (λ b. eq_by_cmp R q x || b) h ∙ or_swap (eq_by_cmp R q x) (eq_by_cmp R q k) (list_any (eq_by_cmp R q) xs)

text_apart : IsAntisymmetric text_cmp
text_apart = slice_cmp-IsAntisymmetric nat_cmp-IsAntisymmetric

names_sorted : (known ns : Names) → IsStrictlySortedBy text_cmp known → IsStrictlySortedBy text_cmp (with_names known ns)
names_sorted known [] s = s
names_sorted known (n ∷ ns) s = names_sorted (insert_key text_cmp known n) ns (put_sorted nat_list_cmp_total text_apart known n s)

names_any : (q : List ℕ) (known ns : Names) →
    list_any (eq_by_cmp text_cmp q) (with_names known ns) ≡ (list_any (eq_by_cmp text_cmp q) ns || list_any (eq_by_cmp text_cmp q) known)
names_any q known [] = refl
names_any q known (n ∷ ns) =
    names_any q (insert_key text_cmp known n) ns
    ∙ ap (λ b. list_any (eq_by_cmp text_cmp q) ns || b) (any_put nat_list_cmp_total text_apart q known n)
    ∙ or_swap (list_any (eq_by_cmp text_cmp q) ns) (eq_by_cmp text_cmp q n) (list_any (eq_by_cmp text_cmp q) known)
    ∙ sym (or_assoc (eq_by_cmp text_cmp q n) (list_any (eq_by_cmp text_cmp q) ns) (list_any (eq_by_cmp text_cmp q) known))

pub variables_in_order : VariablesInOrder
unfolding visible
variables_in_order P = names_sorted [] (names_in P) (sorted_nil nat_list_cmp_total text_apart)

pub variables_are_all : VariablesAreAll
unfolding visible
variables_are_all P name = names_any name [] (names_in P) ∙ or_false (list_any (eq_by_cmp text_cmp name) (names_in P))

pub named_in_order : NamedInOrder
unfolding named
named_in_order P = names_sorted [] (all_names_in P) (sorted_nil nat_list_cmp_total text_apart)

pub named_are_all : NamedAreAll
unfolding named
named_are_all P name = names_any name [] (all_names_in P) ∙ or_false (list_any (eq_by_cmp text_cmp name) (all_names_in P))
