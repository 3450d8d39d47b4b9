-- The columns of triple patterns, found by going over these.
use Rattle.std.specs.Prelude.{ℕ, Bool, false, ◌&&◌, ◌||◌, List, [], ◌∷◌, ◌++◌, cond, is_some, nat_lt}
use Rattle.sparql_values.specs.Mapping.{Mapping, value_at}
use Rattle.sparql_solve.specs.declared.place.Place.{Place}
use Rattle.sparql_solve.specs.declared.place.Place.TheVariants.{Fixed, Column, Nowhere}
use Rattle.sparql_solve.specs.declared.place.Places.{Places}

-- the columns with that of the place, where it is one of so many
abbrev pub marked : ℕ → Place → List ℕ → List ℕ
marked n (Fixed t) columns = columns
marked n (Column c) columns = cond (nat_lt c n) (columns ++ c ∷ []) columns
marked n Nowhere columns = columns

-- the place is one of so many columns, and the mapping has a term there
abbrev pub is_bound_at : ℕ → Mapping → Place → Bool
is_bound_at columns m (Fixed t) = false
is_bound_at columns m (Column c) = nat_lt c columns && is_some (value_at m c)
is_bound_at columns m Nowhere = false

-- one of the places is
abbrev pub is_bound_in : ℕ → Mapping → Places → Bool
is_bound_in columns m p = is_bound_at columns m p.subject || (is_bound_at columns m p.predicate || is_bound_at columns m p.object)
