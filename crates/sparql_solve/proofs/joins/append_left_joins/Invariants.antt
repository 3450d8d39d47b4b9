use Rattle.std.proofs.Common.{◌≡◌, ◌++◌, drop, filter, map}
use Rattle.std.specs.List.{flat_map}
use Rattle.sparql_algebra.specs.Solutions.{or_alone, satisfies}
use Rattle.sparql_solve.specs.Parts.{merges_in}
use Rattle.sparql_solve.proofs.joins.append_left_joins.Given as goal

abbrev pub invariant-loop-row : goal.invariant-loop-row
invariant-loop-row l =
    l.out.items
    ++ flat_map (λ a. or_alone a (filter (satisfies l.scope.variables.now l.filters) (merges_in l.parts a))) (map (λ r. r.now) (drop l.row-index l.rows))
    ≡ l.fn.out.items ++ flat_map (λ a. or_alone a (filter (satisfies l.scope.variables.now l.filters) (merges_in l.parts a))) (map (λ r. r.now) l.rows)
