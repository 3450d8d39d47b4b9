use Rattle.std.proofs.Common.{◌≡◌, ℕ, ◌<◌, nat_eq, take}
use Rattle.std.specs.List.{list_any}
use Rattle.sparql_solve.specs.Matching.{has_column}
use Rattle.sparql_solve.proofs.basic.columns_of.Given as goal

abbrev pub invariant-loop-places : goal.invariant-loop-places
invariant-loop-places l = (at : ℕ) → at < l.len → list_any (nat_eq at) l.columns.items ≡ list_any (has_column at) (take l.places-index l.patterns)
