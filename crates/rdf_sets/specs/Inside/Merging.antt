-- Two strictly rising lists that are merged from their greatest items on.
use Rattle.std.specs.Prelude.{◌≡◌, ◌||◌, ◌∷◌, ◌+◌, ◌<◌, List, ◌++◌, length, reverse}
use Rattle.std.specs.declared.cmp.Ordering.{Ordering}
use Rattle.std.specs.List.{list_any}
use Rattle.std.specs.List.Sorted.{IsStrictlySortedBy}
use Rattle.std.specs.Ordering.{eq_by_cmp}

-- x came off the ends of a and b, where the greatest items of a merge stand: c and d are left
pub record PopsGreatest {K : Type 0} (R : K → K → Ordering) (a b c d : List K) (x : K) : Type 0 where
  pub first : (rest : List K) → IsStrictlySortedBy R (a ++ rest) → IsStrictlySortedBy R (b ++ rest) → IsStrictlySortedBy R (c ++ x ∷ rest)
  pub second : (rest : List K) → IsStrictlySortedBy R (a ++ rest) → IsStrictlySortedBy R (b ++ rest) → IsStrictlySortedBy R (d ++ x ∷ rest)
  pub members : (q : K) → (list_any (eq_by_cmp R q) a || list_any (eq_by_cmp R q) b) ≡ (eq_by_cmp R q x || (list_any (eq_by_cmp R q) c || list_any (eq_by_cmp R q) d))
  pub shorter : length c + length d < length a + length b

-- a and b are left of two lists whose greatest items were merged, the greatest first
pub record IsMerging {K : Type 0} (R : K → K → Ordering) (a0 b0 a b done : List K) : Type 0 where
  pub first : IsStrictlySortedBy R (a ++ reverse done)
  pub second : IsStrictlySortedBy R (b ++ reverse done)
  pub members : (q : K) → (list_any (eq_by_cmp R q) a0 || list_any (eq_by_cmp R q) b0) ≡ (list_any (eq_by_cmp R q) done || (list_any (eq_by_cmp R q) a || list_any (eq_by_cmp R q) b))
