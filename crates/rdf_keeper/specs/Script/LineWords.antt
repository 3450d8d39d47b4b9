-- The words of a script's line.
use Rattle.std.specs.Prelude.{ℕ, Bool, ◌||◌, ◌&&◌, not, List, nat_eq, nat_le, length, filter}
use Rattle.std.specs.Char.{is_ascii_alphanumeric}
use Rattle.std.specs.List.{slice_split, list_all}
use Rattle.rdf_keeper.specs.Script.Lines.{is_empty}

-- a space or a tab
abbrev pub is_gap : ℕ → Bool
is_gap b = nat_eq b 32 || nat_eq b 9

-- the parts between gaps that aren't empty
abbrev pub words : List ℕ → List (List ℕ)
words line = filter (λ word. not (is_empty word)) (slice_split is_gap line)

-- an ASCII letter or digit, `_`, `-` or `.`
abbrev pub is_name_byte : ℕ → Bool
is_name_byte b = is_ascii_alphanumeric b || (nat_eq b 95 || (nat_eq b 45 || nat_eq b 46))

-- the name of a mark in a script
abbrev pub is_name : List ℕ → Bool
is_name word = nat_le 1 (length word) && (nat_le (length word) 64 && list_all is_name_byte word)
