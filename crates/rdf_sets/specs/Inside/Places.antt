-- Where an item stands in a sorted list, or would stand.
use Rattle.std.specs.Prelude.{◌≡◌, ℕ, ◌<◌, ◌≤◌, List, length, take, drop, slice_index_or}
use Rattle.std.specs.declared.cmp.Ordering.{Ordering}
use Rattle.std.specs.declared.cmp.Ordering.TheVariants.{Less, Equal}
use Rattle.std.specs.List.{AllByRecursion}

-- the item at the place ties with x
pub record IsFoundAt {K : Type 0} (R : K → K → Ordering) (items : List K) (x : K) (place : ℕ) : Type 0 where
  pub inside : place < length items
  pub ties : (d : K) → R (slice_index_or items place d) x ≡ Equal

-- x goes in at the place: what is before is less, and what is behind is greater
pub record IsGapAt {K : Type 0} (R : K → K → Ordering) (items : List K) (x : K) (place : ℕ) : Type 0 where
  pub inside : place ≤ length items
  pub before : AllByRecursion (λ y. R y x ≡ Less) (take place items)
  pub behind : AllByRecursion (λ y. R x y ≡ Less) (drop place items)
