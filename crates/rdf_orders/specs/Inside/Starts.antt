-- Where the keys ahead begin in a search tree.
use Rattle.std.specs.Prelude.{◌≡◌, ℕ, List, length, Option, IfSome}
use Rattle.std.specs.declared.ops.Bound.{Bound}
use Rattle.std.specs.BTreeMap.Range.{IsFromStart, IsLeBy, IsLtBy}
use Rattle.rdf_orders.specs.Quads.{key_cmp}
use Rattle.rdf_orders.specs.Runs.{BeginsWith, IsAhead}

-- each key ahead is inside the bound, and what is inside is after a key that begins with the prefix, and after `after`
pub record StartsRun (prefix : List ℕ) (after : Option (List ℕ)) (start : Bound (List ℕ)) : Type 0 where
  pub least : List ℕ
  pub begins : BeginsWith prefix least
  pub reaches : (k : List ℕ) → length k ≡ 4 → IsAhead prefix after k → IsFromStart key_cmp start k
  pub from_least : (k : List ℕ) → IsFromStart key_cmp start k → IsLeBy key_cmp least k
  pub later : (k : List ℕ) → IsFromStart key_cmp start k → IfSome after (λ a. IsLtBy key_cmp a k)
