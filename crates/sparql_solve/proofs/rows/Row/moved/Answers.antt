use Rattle.sparql_solve.proofs.ShownLemmas.{apart_more, moved_more}
use Rattle.sparql_solve.proofs.rows.Row.moved.Goals as goal

pub loop-column-preserved : goal.loop-column-preserved
loop-column-preserved c = record {
  apart = apart_more c.args.columns.now c.loop-column.column-index c.loop-column-test.true c.loop-column.invariant.apart;
  values =
      moved_more c.loop-column.own.items c.take_in.new.values.items c.args.columns.now c.loop-column.column-index c.take_in.result c.loop-column.values.items
      c.push.new.self.items _ c.loop-column-test.true c.loop-column.invariant.apart c.take_in.ensures.value c.take_in.ensures.left c.in_ok-push.ensures.items
      c.loop-column.invariant.values;
}
