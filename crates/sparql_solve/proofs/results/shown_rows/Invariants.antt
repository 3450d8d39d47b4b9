use Rattle.std.proofs.Common.{◌≡◌, ◌++◌, drop, map}
use Rattle.sparql_values.specs.Mapping.{Mapping, value_in}
use Rattle.sparql_solve.proofs.results.shown_rows.Given as goal

abbrev pub invariant-loop-row : goal.invariant-loop-row
invariant-loop-row l =
    l.out.items ++ map (λ (r : Mapping). map (value_in r) l.columns.items) (drop l.row-index l.rows) ≡ map (λ (r : Mapping). map (value_in r) l.columns.items) l.rows
