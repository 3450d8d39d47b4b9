-- The next column that has a term.
use Rattle.std.specs.Prelude.{◌≡◌, ℕ, ◌<◌, ◌≤◌, true, Option, Some, None, is_some}
use Rattle.sparql_values.specs.Mapping.{Mapping, value_at}

-- the first column from this one on that has a term
pub record IsFirstFrom (m : Mapping) (from column : ℕ) : Type 0 where
  pub after : from ≤ column
  pub bound : is_some (value_at m column) ≡ true
  pub none_between : (i : ℕ) → from ≤ i → i < column → value_at m i ≡ None

-- where there is one; else none has a term
abbrev pub IsNextBound : Mapping → ℕ → Option ℕ → Type 0
IsNextBound m from (Some column) = IsFirstFrom m from column
IsNextBound m from None = (i : ℕ) → from ≤ i → value_at m i ≡ None
