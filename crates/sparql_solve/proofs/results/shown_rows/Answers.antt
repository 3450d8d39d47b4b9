use Rattle.sparql_solve.proofs.ResultLemmas.{shown_more}
use Rattle.sparql_solve.proofs.TurnedLemmas.{columns_turned}
use Rattle.sparql_solve.proofs.results.shown_rows.Goals as goal

pub shown-requires : goal.shown-requires
shown-requires c =
    columns_turned c.args.names.now c.args.variables.now c.in_ok-columns.columns.items c.as_slice-in-loop-row.result.now c.in_ok-places.places.items
    c.as_slice-in-loop-row-2.result.now c.as_slice-2.result.now c.as_slice.result.now c.requires.names c.requires.variables c.as_slice-2.ensures c.as_slice.ensures
    c.in_ok-columns.ensures c.as_slice-in-loop-row.ensures.value c.in_ok-places.ensures c.as_slice-in-loop-row-2.ensures.value

pub loop-row-preserved : goal.loop-row-preserved
loop-row-preserved c =
    shown_more c.in_ok-columns.columns.items c.as_slice-in-loop-row.result.now c.args.rows.now c.loop-row.row-index c.row-item.result c.in_ok-shown.field-0
    c.loop-row.out.items c.push.new.self.items _ c.loop-row-test.true c.row-item.is c.as_slice-in-loop-row.ensures.value c.in_ok-shown.ensures
    c.in_ok-push.ensures.items c.loop-row.invariant
