-- How the rows of two sides are joined by key: by their values at the columns that each of them binds.
use Rattle.std.specs.Prelude.{◌≡◌, ℕ, Bool, true, ◌&&◌, List, [], ◌∷◌, length, is_some, map, filter, All}
use Rattle.std.specs.List.{list_all, range_with_len}
use Rattle.std.specs.List.Sorted.{IsSortedByKey, IsStableByKey}
use Rattle.std.specs.Ordering.{is_eq}
use Rattle.std.specs.declared.cmp.Ordering.{Ordering}
use Rattle.sparql_values.specs.Mapping.{Mapping, value_at}
use Rattle.sparql_algebra.specs.Order.{mapping_cmp}
use Rattle.sparql_algebra.specs.Solutions.{merges}

-- the mapping has a term at the column
abbrev pub binds : ℕ → Mapping → Bool
binds column m = is_some (value_at m column)

-- each mapping of both lists has a term at the column
abbrev pub all_bind : List Mapping → List Mapping → ℕ → Bool
all_bind A B column = list_all (binds column) A && list_all (binds column) B

-- the columns of a mapping, from the left
abbrev pub columns_of : Mapping → List ℕ
columns_of m = range_with_len 0 (length m)

-- the columns at which each mapping of both lists has a term; none where there is no mapping on the left
abbrev pub key_columns : List Mapping → List Mapping → List ℕ
key_columns [] B = []
key_columns (a ∷ A) B = filter (all_bind (a ∷ A) B) (columns_of a)

-- each mapping of both lists has a term at each of the columns
abbrev pub IsKeyOf : List ℕ → List Mapping → List Mapping → Type 0
IsKeyOf columns A B = list_all (all_bind A B) columns ≡ true

-- what a mapping has at the key columns
abbrev pub key : List ℕ → Mapping → Mapping
key columns m = map (value_at m) columns

-- by the values at the key columns from the left
abbrev pub key_cmp : List ℕ → Mapping → Mapping → Ordering
key_cmp columns a b = mapping_cmp (key columns a) (key columns b)

abbrev pub same_key : List ℕ → Mapping → Mapping → Bool
same_key columns a b = is_eq (key_cmp columns a b)

-- the mappings in the order of their keys, those of one key in the order in which they came
pub record IsIndex (columns : List ℕ) (B index : List Mapping) : Type 0 where
  pub sorted : IsSortedByKey (key columns) mapping_cmp index
  pub stable : IsStableByKey (key columns) mapping_cmp B index

-- the mappings of an index that have the key of this one
abbrev pub run : List ℕ → List Mapping → Mapping → List Mapping
run columns index a = filter (same_key columns a) index

-- ---- law

-- Two mappings with different keys are not compatible. So the run of a left mapping's key gives all of its merges, in the order in which the
-- right mappings came.
abbrev pub RunsGiveMerges : Type 0
RunsGiveMerges = (A B index : List Mapping) → IsIndex (key_columns A B) B index →
    All (λ a. merges (run (key_columns A B) index a) a ≡ merges B a) A
