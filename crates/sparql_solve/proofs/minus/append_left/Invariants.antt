use Rattle.std.proofs.Common.{◌≡◌, ◌++◌, drop, map}
use Rattle.std.specs.List.{flat_map}
use Rattle.sparql_solve.specs.Parts.{left_in}
use Rattle.sparql_solve.proofs.minus.append_left.Given as goal

abbrev pub invariant-loop-row : goal.invariant-loop-row
invariant-loop-row l =
    l.out.items ++ flat_map (left_in l.parts) (map (λ r. r.now) (drop l.row-index l.rows))
    ≡ l.fn.out.items ++ flat_map (left_in l.parts) (map (λ r. r.now) l.rows)
