use Rattle.sparql_solve.proofs.ColumnLemmas.{row_more, rows_done}
use Rattle.sparql_solve.proofs.results.are_all.Goals as goal

pub loop-row-preserved : goal.loop-row-preserved
loop-row-preserved c =
    row_more c.args.columns.now (c.are_in_place.ensures c.if-not-are_in_place.false) c.args.rows.now c.loop-row.row-index c.row-item.result
    c.loop-row-test.true c.row-item.is (c.is_as_long.ensures c.if-not-is_as_long.false) c.loop-row.invariant

pub returns : goal.returns
returns c t = rows_done c.args.columns.now c.args.rows.now c.loop-row.row-index c.loop-row-test.false c.loop-row.invariant
