-- Where a name stands among names in order.
use Rattle.std.proofs.Common.{◌≡◌, ℕ, ◌+◌, ◌<◌, true, false, cond, nat_eq, List, length, get_or, Some, None, Result, Ok, Err, inl, inr, sym, ap, ◌∙◌, subst, arith, nat_lt}
use Rattle.std.specs.Cmp.{Equal-is, tied_itself}
use Rattle.std.specs.Cmp.Lexicographic.{nat_list_cmp_total, pointwise, texts_ties}
use Rattle.std.specs.FinSet.{IsAntisymmetric, nat_cmp-IsAntisymmetric, slice_cmp-IsAntisymmetric}
use Rattle.std.specs.List.{position_or_len}
use Rattle.std.specs.List.Sorted.{IsStrictlySortedBy, IsSortedBy, IsBinarySearchResult, IsPartitionPoint, IsSearchInRange}
use Rattle.std.specs.Ordering.{eq_by_cmp, is_eq, is_lt, ordering_reverse}
use Rattle.std.specs.Result.{result_ok}
use Rattle.std.specs.declared.cmp.Ordering.TheVariants.{Less, Equal, Greater}
use Rattle.std.proofs.lemmas.Bool.{cases_lt, le-ltb, lt-ltb}
use Rattle.std.proofs.lemmas.List.{get_or_default}
use Rattle.std.proofs.lemmas.List.Sorted.{searchable_from_sorted}
use Rattle.std.proofs.lemmas.List.Sums.{passes_at_first, position_or_len_is}
use Rattle.std.proofs.lemmas.Map.Keys.{Less-from_sorted}
use Rattle.rdf_terms.specs.Order.{text_cmp}
use Rattle.sparql_values.specs.Mapping.{Variables, column}

text_apart : IsAntisymmetric text_cmp
text_apart = slice_cmp-IsAntisymmetric nat_cmp-IsAntisymmetric

turned : (x y : List ℕ) → text_cmp x y ≡ ordering_reverse (text_cmp y x)
turned x y = nat_list_cmp_total.antisymm x y

-- texts are the same where neither is less
pub same_texts : (x y : List ℕ) → pointwise nat_eq x y ≡ eq_by_cmp text_cmp x y
same_texts = texts_ties

-- a name is neither one that is less nor one that is greater
not_less : (x y : List ℕ) → text_cmp y x ≡ Less → eq_by_cmp text_cmp x y ≡ false
not_less x y e = ap is_eq (turned x y ∙ ap ordering_reverse e)

not_greater : (x y : List ℕ) → text_cmp y x ≡ Greater → eq_by_cmp text_cmp x y ≡ false
not_greater x y e = ap is_eq (turned x y ∙ ap ordering_reverse e)

is_same : (x y : List ℕ) → text_cmp y x ≡ Equal → eq_by_cmp text_cmp x y ≡ true
is_same x y e = ap is_eq (turned x y ∙ ap ordering_reverse e)

in_order : (xs : Variables) → IsStrictlySortedBy text_cmp xs → IsSortedBy (λ a b. is_lt (text_cmp a b)) xs
in_order xs s k d a h =
    ap is_lt (turned (get_or xs (k + 1) d) (get_or xs k d)
    ∙ ap ordering_reverse (Less-from_sorted text_cmp xs k (k + 1) d s (omega arith) h))

module _ (xs : Variables) (x : List ℕ) (s : IsStrictlySortedBy text_cmp xs) where
  found_at : (i : ℕ) → i < length xs → ((d : List ℕ) → text_cmp (get_or xs i d) x ≡ Equal) → column xs x ≡ Some i
  found_at i h b =
      ap (λ n. cond (nat_lt n (length xs)) (Some n) None) first ∙ ap (λ c. cond c (Some i) None) (lt-ltb i (length xs) h)
    where
      before : (k : ℕ) → k < i → eq_by_cmp text_cmp x (get_or xs k x) ≡ false
      before k l =
          not_less x (get_or xs k x)
          (subst (λ (y : List ℕ). text_cmp (get_or xs k x) y ≡ Less) (text_apart (get_or xs i x) x (b x)) (Less-from_sorted text_cmp xs k i x s l h))

      first : position_or_len (eq_by_cmp text_cmp x) xs ≡ i
      first = position_or_len_is (eq_by_cmp text_cmp x) xs i x (omega arith) before (λ _. is_same x (get_or xs i x) (b x))

  nowhere : (i : ℕ) → IsPartitionPoint (λ y. text_cmp y x ≡ Less) (λ y. text_cmp y x ≡ Greater) xs i → column xs x ≡ None
  nowhere i parted =
      ap (λ n. cond (nat_lt n (length xs)) (Some n) None) all ∙ ap (λ c. cond c (Some (length xs)) None) (le-ltb (length xs) (length xs) (omega arith))
    where
      none : (k : ℕ) → k < length xs → eq_by_cmp text_cmp x (get_or xs k x) ≡ false
      none k l =
          elim (cases_lt k i) [
            | inl m ↦ not_less x (get_or xs k x) (parted.0 k x (omega arith) m)
            | inr m ↦ not_greater x (get_or xs k x) (parted.1 k x m l)
          ]

      all : position_or_len (eq_by_cmp text_cmp x) xs ≡ length xs
      all = position_or_len_is (eq_by_cmp text_cmp x) xs (length xs) x (omega arith) none (λ l. absurd (omega arith))

  -- what a search by halves finds is the column of the name
  pub column_found : (r : Result ℕ ℕ) → IsSearchInRange r (length xs) → IsBinarySearchResult (λ y. text_cmp y x) xs r → result_ok r ≡ column xs x
  column_found (Ok i) h b = sym (found_at i h b)
  column_found (Err i) h b = sym (nowhere i (b (searchable_from_sorted nat_list_cmp_total (λ (y : List ℕ). y) xs x (in_order xs s))))

-- ---- the column of a name, and the name of a column

pub column_at : (xs : Variables) (i : ℕ) (d : List ℕ) → IsStrictlySortedBy text_cmp xs → i < length xs → column xs (get_or xs i d) ≡ Some i
column_at xs i d s l =
    found_at xs (get_or xs i d) s i l
    (λ e. ap (λ (y : List ℕ). text_cmp y (get_or xs i d)) (get_or_default xs i e d l) ∙ tied_itself nat_list_cmp_total (get_or xs i d))

-- where the first of these has been looked for
pub column_is : (xs : Variables) (x d : List ℕ) (i : ℕ) → column xs x ≡ Some i → (i < length xs) × (get_or xs i d ≡ x)
column_is xs x d i e = elim (cases_lt first (length xs)) [
  | inl l ↦
      let at : first ≡ i = some_is (ap (λ c. cond c (Some first) None) (sym (lt-ltb first (length xs) l)) ∙ e) in
      let same : x ≡ get_or xs first d = text_apart x (get_or xs first d) ((Equal-is (text_cmp x (get_or xs first d))).0 (passes_at_first (eq_by_cmp text_cmp x) xs d l)) in
      (omega (arith, at, l), ap (λ n. get_or xs n d) (sym at) ∙ sym same)
  | inr l ↦ absurd (none_is (ap (λ c. cond c (Some first) None) (sym (le-ltb first (length xs) l)) ∙ e))
]
  where
    first : ℕ
    first = position_or_len (eq_by_cmp text_cmp x) xs

    some_is : {m n : ℕ} → Some m ≡ Some n → m ≡ n
    some_is h = cc

    none_is : {n : ℕ} → None ≡ Some n → ⊥
    none_is h = cc
