-- What a list of added items and a list of removed ones say of two sets.
use Rattle.std.specs.Prelude.{◌≡◌, List}
use Rattle.std.specs.declared.cmp.Ordering.{Ordering}
use Rattle.std.specs.FinSet as set

-- what t has and s hasn't was added, and what s has and t hasn't was removed
pub record IsDelta {K : Type 0} {R : K → K → Ordering} (s t : set.FinSet R) (added removed : List K) : Type 0 where
  pub gained : set.from_list added ≡ set.difference t s
  pub lost : set.from_list removed ≡ set.difference s t
