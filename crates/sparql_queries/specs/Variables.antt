-- The names of variables (SPARQL 1.1 Query, section 4.1.3).
use Rattle.std.specs.Prelude.{ℕ, List, [], ◌∷◌}
use Rattle.std.specs.Str.{encode_utf8_all}

-- a variable's name stands behind its `?` or `$`
abbrev pub variable_name : List ℕ → List ℕ
variable_name [] = []
variable_name (mark ∷ characters) = encode_utf8_all characters
