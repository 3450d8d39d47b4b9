use Rattle.std.proofs.Common.{Some, ap, arith, ◌∙◌}
use Rattle.sparql_solve.proofs.ColumnLemmas.{column_more, columns_done}
use Rattle.sparql_solve.proofs.results.are_in_place.Goals as goal

pub loop-column-preserved : goal.loop-column-preserved
loop-column-preserved c = record {
  at = omega (arith, c.loop-column.invariant.at);
  same = column_more c.args.columns.now c.loop-column.column-index c.loop-column-test.true
      (c.is_column.ensures c.if-not-is_column.false ∙ ap Some c.loop-column.invariant.at) c.loop-column.invariant.same;
}

pub returns : goal.returns
returns c t = columns_done c.args.columns.now c.loop-column.column-index c.loop-column-test.false c.loop-column.invariant.same
