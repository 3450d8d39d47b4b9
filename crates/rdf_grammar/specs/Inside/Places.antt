-- Values that are kept at places.
use Rattle.std.specs.Prelude.{ℕ, List, Option, ◌%◌, length, slice_get}
use Rattle.std.specs.Option.{option_flatten}

-- the value at the place of what has this mark
abbrev pub kept_at : {A : Type 0} → ℕ → List (Option A) → Option A
kept_at mark places = option_flatten (slice_get places (mark % length places))
