use Rattle.std.proofs.Common.{◌≡◌, drop, map}
use Rattle.sparql_values.specs.Mapping.{Mapping, value_in}
use Rattle.sparql_solve.proofs.results.are_all.Given as goal

abbrev pub invariant-loop-row : goal.invariant-loop-row
invariant-loop-row l =
    map (λ (r : Mapping). map (value_in r) l.columns) (drop l.row-index l.rows) ≡ drop l.row-index l.rows → map (λ (r : Mapping). map (value_in r) l.columns) l.rows ≡ l.rows
