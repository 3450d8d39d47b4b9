use Rattle.std.proofs.Common.{◌≡◌, ◌++◌, drop, map}
use Rattle.std.specs.List.{count_by}
use Rattle.sparql_values.specs.Mapping.{Mapping, same_mapping, value_in}
use Rattle.sparql_algebra.specs.Results.{times_selected}
use Rattle.sparql_solve.proofs.results.projected_rows.Given as goal

abbrev pub invariant-loop-row : goal.invariant-loop-row
invariant-loop-row l =
    (m : Mapping) → times_selected l.distinct (count_by (same_mapping m) (l.out.items ++ map (λ (r : Mapping). map (value_in r) l.columns) (drop l.row-index l.rows)))
    ≡ times_selected l.distinct (count_by (same_mapping m) (map (λ (r : Mapping). map (value_in r) l.columns) l.rows))
