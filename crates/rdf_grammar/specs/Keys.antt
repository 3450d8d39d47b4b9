-- Prefixes and labels, told apart.
use Rattle.std.specs.Prelude.{ℕ, Bool, List, nat_eq}
use Rattle.std.specs.Cmp.Lexicographic.{pointwise}
use Rattle.std.specs.Str.{encode_utf8_all}

-- by the UTF-8 bytes of their characters
abbrev pub key_of : List ℕ → List ℕ
key_of slice = encode_utf8_all slice

abbrev pub same_key : List ℕ → List ℕ → Bool
same_key = pointwise nat_eq
