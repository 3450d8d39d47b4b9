use Rattle.std.proofs.Common.{◌≡◌, ◌++◌, drop}
use Rattle.sparql_algebra.specs.Solutions.{merges}
use Rattle.sparql_solve.proofs.sides.merges_of.Given as goal

abbrev pub invariant-loop-other : goal.invariant-loop-other
invariant-loop-other l = l.out.items ++ merges (drop l.other-index l.found) l.row ≡ merges l.found l.row
