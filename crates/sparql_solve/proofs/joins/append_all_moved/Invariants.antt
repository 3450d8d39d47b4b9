use Rattle.std.proofs.Common.{◌≡◌, ◌++◌, filter}
use Rattle.std.specs.List.{flat_map}
use Rattle.std.specs.Vec.Iter.{into_iter_items}
use Rattle.sparql_algebra.specs.Solutions.{or_alone, satisfies}
use Rattle.sparql_solve.specs.Parts.{merges_in}
use Rattle.sparql_solve.proofs.joins.append_all_moved.Given as goal

abbrev pub invariant-loop-row : goal.invariant-loop-row
invariant-loop-row l =
    l.out.items ++ flat_map (λ a. or_alone a (filter (satisfies l.scope.variables.now l.filters) (merges_in l.parts a))) (into_iter_items l.row-iterator)
    ≡ l.fn.out.items ++ flat_map (λ a. or_alone a (filter (satisfies l.scope.variables.now l.filters) (merges_in l.parts a))) l.fn.rows.items
