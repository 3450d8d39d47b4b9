use Rattle.std.proofs.Common.{arith, sym}
use Rattle.std.proofs.lemmas.Grind.{common_steps}
use Rattle.rdf_sets.proofs.KeepLemmas.{gap_here}
use Rattle.rdf_sets.proofs.sorted.find_from.Goals as goal

pub returns-in-Greater-clause-absent : goal.returns-in-Greater-clause-absent
returns-in-Greater-clause-absent g c =
    gap_here g.met.T.Item.in_order g.met.T.Item.apart c.args.items.now c.args.item.now c.index-items-place.result c.loop-place.place
    c.requires.sorted c.loop-place-test.true c.index-items-place.is c.loop-place.invariant.less (sym c.in-Greater.ensures)

pub loop-place-preserved : goal.loop-place-preserved
loop-place-preserved g c = grind (arith, common_steps)

pub returns-clause-absent : goal.returns-clause-absent
returns-clause-absent g c = grind (arith, common_steps)

pub returns-in-Equal-clause-found : goal.returns-in-Equal-clause-found
returns-in-Equal-clause-found g c = grind (arith, common_steps)
