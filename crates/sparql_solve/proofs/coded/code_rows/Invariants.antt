use Rattle.std.proofs.Common.{◌≡◌}
use Rattle.std.specs.List.{AllWithin}
use Rattle.sparql_solve.specs.Coded.{IsCoded, rows_of}
use Rattle.sparql_solve.proofs.coded.code_rows.Given as goal

abbrev pub invariant-loop-coded : goal.invariant-loop-coded
invariant-loop-coded l = record {
  same : rows_of l.rows ≡ rows_of l.fn.rows;
  coded : AllWithin (IsCoded l.column l.skipped) l.rows 0 l.coded-index;
}
