-- Columns at which rows are shown.
use Rattle.std.specs.Prelude.{ℕ, Bool, true, false, not, ◌&&◌, ◌==◌, List, [], ◌∷◌, Option, Some, None, slice_set}
use Rattle.std.specs.List.{list_any}
use Rattle.sparql_values.specs.Mapping.{Mapping}

abbrev pub same_column : Option ℕ → Option ℕ → Bool
same_column None d = false
same_column (Some c) None = false
same_column (Some c) (Some d) = c == d

-- no column stands twice
abbrev pub apart : List (Option ℕ) → Bool
apart [] = true
apart (c ∷ columns) = not (list_any (same_column c) columns) && apart columns

-- what is left of a mapping where the value of a column, if there is one, was taken
abbrev pub left_of : Mapping → Option ℕ → Mapping
left_of m None = m
left_of m (Some column) = slice_set m column None
