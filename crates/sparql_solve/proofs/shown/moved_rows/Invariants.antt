use Rattle.std.proofs.Common.{◌≡◌, ◌++◌, map}
use Rattle.std.specs.Vec.Iter.{into_iter_items}
use Rattle.sparql_values.specs.Mapping.{Mapping, value_in}
use Rattle.sparql_solve.proofs.shown.moved_rows.Given as goal

abbrev pub invariant-loop-row : goal.invariant-loop-row
invariant-loop-row l =
    l.out.items ++ map (λ (r : Mapping). map (value_in r) l.columns) (into_iter_items l.row-iterator) ≡ map (λ (r : Mapping). map (value_in r) l.columns) l.fn.rows.items
