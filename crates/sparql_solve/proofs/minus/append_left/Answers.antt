use Rattle.sparql_solve.proofs.MinusLemmas.{one_taken, one_kept}
use Rattle.sparql_solve.proofs.minus.append_left.Goals as goal

pub loop-row-preserved-then-meets_any : goal.loop-row-preserved-then-meets_any
loop-row-preserved-then-meets_any c =
    one_taken c.args.parts.now c.args.rows.now c.loop-row.row-index c.row-item.result c.meets_any.result c.loop-row.out.items _ c.loop-row-test.true
    c.row-item.is c.meets_any.ensures c.loop-row.invariant c.if-meets_any.true

pub loop-row-preserved : goal.loop-row-preserved
loop-row-preserved c =
    one_kept c.args.parts.now c.args.rows.now c.loop-row.row-index c.row-item.result c.meets_any.result c.loop-row.out.items _ c.loop-row-test.true
    c.row-item.is c.meets_any.ensures c.loop-row.invariant c.in_ok-copy.field-0 c.push.new.self.items c.if-meets_any.false c.in_ok-copy.ensures
    c.in_ok-push.ensures.items
