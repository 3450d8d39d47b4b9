use Rattle.std.proofs.Common.{map}
use Rattle.sparql_solve.specs.LookUps.{widened}
use Rattle.sparql_solve.proofs.RowLemmas.{map_more}
use Rattle.sparql_solve.proofs.chunks.widened_rows.Goals as goal

pub loop-row-preserved : goal.loop-row-preserved
loop-row-preserved c =
    map_more (widened c.args.hidden) c.args.rows.now c.loop-row.row-index c.row-item.result c.loop-row.out.items c.push.new.self.items
    c.in_ok-widened.field-0 (map (widened c.args.hidden) c.args.rows.now) c.loop-row-test.true c.row-item.is c.loop-row.invariant c.in_ok-widened.ensures
    c.in_ok-push.ensures.items
