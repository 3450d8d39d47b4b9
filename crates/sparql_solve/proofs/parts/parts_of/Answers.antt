use Rattle.sparql_solve.proofs.KeyLemmas.{rows_of}
use Rattle.sparql_solve.proofs.PartLemmas.{one_more_part, all_parts}
use Rattle.sparql_solve.proofs.parts.parts_of.Goals as goal

pub loop-rows-preserved : goal.loop-rows-preserved
loop-rows-preserved c =
    one_more_part (rows_of c.args.left.now) c.args.right.now c.loop-rows.rows-index c.rows-item.result c.loop-rows.parts.items c.push.new.self.items
    c.in_ok-part_of.field-0 c.loop-rows-test.true c.rows-item.is c.loop-rows.invariant c.in_ok-part_of.ensures c.in_ok-push.ensures.items

pub returns : goal.returns
returns c =
    all_parts (rows_of c.args.left.now) c.args.right.now c.loop-rows.rows-index c.loop-rows.parts.items c.loop-rows-test.false c.loop-rows.invariant
