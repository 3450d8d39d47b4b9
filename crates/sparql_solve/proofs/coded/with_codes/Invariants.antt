use Rattle.std.proofs.Common.{◌≡◌, ◌++◌}
use Rattle.std.specs.Vec.Iter.{drain_items}
use Rattle.sparql_solve.specs.Coded.{rows_of}
use Rattle.sparql_solve.proofs.coded.with_codes.Given as goal

abbrev pub invariant-loop-row : goal.invariant-loop-row
invariant-loop-row l = rows_of l.out.items ++ drain_items l.row-iterator ≡ l.fn.rows.items
