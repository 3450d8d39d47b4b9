use Rattle.std.proofs.Common.{arith}
use Rattle.std.proofs.lemmas.Grind.{common_steps}
use Rattle.rdf_sets.proofs.SortedLemmas.{merge_end}
use Rattle.rdf_sets.proofs.sorted.merge_into.Goals as goal

pub returns-clause-ok : goal.returns-clause-ok
returns-clause-ok g c =
    let n = c.in_default.ensures in
    let e = merge_end g.met.T.Item.in_order g.met.T.Item.apart c.args.items.now.items c.args.more.items c.loop-item.items.items c.loop-item.more.items c.loop-item.merged.items n.0 n.1 c.loop-item.invariant.merging in
    rw c.reverse.ensures.items e.1

pub loop-item-preserved : goal.loop-item-preserved
loop-item-preserved g c = grind (arith, common_steps)
