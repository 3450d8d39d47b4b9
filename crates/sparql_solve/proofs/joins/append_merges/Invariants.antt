use Rattle.std.proofs.Common.{◌≡◌, ◌++◌, drop, map}
use Rattle.sparql_algebra.specs.Solutions.{merges}
use Rattle.sparql_solve.proofs.joins.append_merges.Given as goal

abbrev pub invariant-loop-other : goal.invariant-loop-other
invariant-loop-other l =
    l.out.items ++ merges (map (λ r. r.now) (drop l.other-index l.others)) l.row ≡ l.fn.out.items ++ merges (map (λ r. r.now) l.others) l.row
