-- The characters that open brackets.
use Rattle.std.specs.Prelude.{ℕ, Bool, ◌||◌, nat_eq}

-- `(`, `[` or `{`
abbrev pub is_opener : ℕ → Bool
is_opener byte = nat_eq byte 40 || (nat_eq byte 91 || nat_eq byte 123)
