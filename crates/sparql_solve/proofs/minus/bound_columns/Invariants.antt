use Rattle.std.proofs.Common.{take}
use Rattle.sparql_solve.proofs.BoundColumnLemmas.{AreBoundIn}
use Rattle.sparql_solve.proofs.KeyLemmas.{rows_of}
use Rattle.sparql_solve.proofs.minus.bound_columns.Given as goal

abbrev pub invariant-loop-row : goal.invariant-loop-row
invariant-loop-row l = AreBoundIn l.columns.items (rows_of (take l.row-index l.rows))
