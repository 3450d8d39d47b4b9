use Rattle.rdf_sets.proofs.DeltaLemmas.{no_delta}
use Rattle.rdf_sets.proofs.delta.Delta.none.Goals as goal

pub returns : goal.returns
returns g c s = rw (c.new.ensures, c.new-2.ensures) (no_delta g.met.T.Item.in_order g.met.T.Item.apart s)
