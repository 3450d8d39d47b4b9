-- Texts that stand in a field as they are.
use Rattle.std.specs.Prelude.{ℕ, Bool, ◌==◌, ◌||◌, nat_lt}

-- a byte that may be written otherwise between quotes: `"`, `\`, or one of the control characters up to CR
abbrev pub is_special : ℕ → Bool
is_special c = nat_lt c 14 || ((c == 34) || (c == 92))
