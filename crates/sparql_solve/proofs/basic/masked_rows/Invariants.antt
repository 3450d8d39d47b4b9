use Rattle.std.proofs.Common.{◌≡◌, ◌++◌, map, drop}
use Rattle.sparql_solve.specs.Under.{masked}
use Rattle.sparql_solve.proofs.basic.masked_rows.Given as goal

abbrev pub invariant-loop-row : goal.invariant-loop-row
invariant-loop-row l = l.out.items ++ map (masked l.flags) (drop l.row-index l.rows) ≡ map (masked l.flags) l.rows
