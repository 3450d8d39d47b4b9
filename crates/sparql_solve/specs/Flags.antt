-- Flags of columns, which are up for all of them or for some.
use Rattle.std.specs.Prelude.{ℕ, Bool, ◌||◌, List, nat_eq}
use Rattle.std.specs.List.{list_any}
use Rattle.sparql_solve.specs.Under.{flags_where}

-- so many flags, up at these columns, or at all
abbrev pub raised : Bool → List ℕ → ℕ → List Bool
raised all columns n = flags_where (λ at. all || list_any (nat_eq at) columns) n
