-- A depth: how many of the things done are kept at most. Without one all are.
use Rattle.std.specs.Prelude.{ℕ, ◌≤◌, Bool, false, Option, Some, None, nat_lt}

abbrev pub greatest_depth : ℕ
greatest_depth = 1000000

abbrev pub IsDepth : Option ℕ → Type 0
IsDepth None = Unit {0}
IsDepth (Some depth) = (1 ≤ depth) × (depth ≤ greatest_depth)

-- so many are no more than the depth
abbrev pub IsWithin : Option ℕ → ℕ → Type 0
IsWithin None count = Unit {0}
IsWithin (Some depth) count = count ≤ depth

-- so many are more than it
abbrev pub is_past : Option ℕ → ℕ → Bool
is_past None count = false
is_past (Some depth) count = nat_lt depth count
