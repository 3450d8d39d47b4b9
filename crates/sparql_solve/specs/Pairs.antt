-- What two mappings have at each column, compared in one of three ways, and what is put at one.
use Rattle.std.specs.Prelude.{◌≡◌, ◌≢◌, ◌<◌, ℕ, Bool, Option, Some, None, List, length, not, slice_index_or, slice_set}
use Rattle.rdf_terms.specs.declared.term.Term.{Term}
use Rattle.sparql_values.specs.Mapping.{Mapping, agrees, value_at}
use Rattle.sparql_algebra.specs.Solutions.{both_have}
use Rattle.sparql_solve.specs.Under.{lies}
use Rattle.sparql_solve.specs.declared.values.Pair.{Pair}
use Rattle.sparql_solve.specs.declared.values.Pair.TheVariants.{Agree, Lie, Apart}

abbrev pub holds : Pair → Option Term × Option Term → Bool
holds Agree p = agrees p
holds Lie p = lies p
holds Apart p = not (both_have p)

-- the mapping with this at the column, if there is one
pub record PutsAt (m new : Mapping) (column : ℕ) (value : Option Term) : Type 0 where
  pub len : length new ≡ length m
  pub here : column < length m → value_at new column ≡ value
  pub others : (i : ℕ) → i ≢ column → value_at new i ≡ value_at m i

-- the mapping with this at the column, where it is a term
abbrev pub with_value : Mapping → ℕ → Option Term → Mapping
with_value m column (Some t) = slice_set m column (Some t)
with_value m column None = m

-- and where there is a column
abbrev pub with_value_in : Mapping → Option ℕ → Option Term → Mapping
with_value_in m (Some column) value = with_value m column value
with_value_in m None value = m

-- the column that stands at this place of these
abbrev pub through : List (Option ℕ) → Option ℕ → Option ℕ
through columns (Some place) = slice_index_or columns place None
through columns None = None

-- Each list has what the other one says of its columns: where the first has this column at a place, the second has this place at the column.
pub record AreTurned (columns places : List (Option ℕ)) : Type 0 where
  pub there : (column place : ℕ) → slice_index_or columns place None ≡ Some column → slice_index_or places column None ≡ Some place
  pub back : (column place : ℕ) → slice_index_or places column None ≡ Some place → slice_index_or columns place None ≡ Some column
