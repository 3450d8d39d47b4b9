-- How long texts are.
use Rattle.std.specs.Prelude.{ℕ}

-- No text in memory has more bytes than this.
abbrev pub longest : ℕ
longest = 9223372036854775807
