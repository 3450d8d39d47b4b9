use Rattle.sparql_solve.proofs.FlagLemmas.{own_all}
use Rattle.sparql_solve.proofs.basic.columns_of.Goals as goal

pub returns : goal.returns
returns c =
    own_all c.args.patterns.now c.loop-places.places-index c.args.len c.loop-places.columns.items c.loop-places-test.false c.loop-places.invariant
