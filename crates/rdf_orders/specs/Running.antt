-- What a look-up still gives, and a count of what it gave.
use Rattle.std.specs.Prelude.{ℕ, List}

-- the keys that are left, and how many were answered
pub record Running : Type 0 where
  pub left : List (List ℕ)
  pub looked : ℕ
