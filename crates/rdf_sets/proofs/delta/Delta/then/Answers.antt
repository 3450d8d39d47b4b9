use Rattle.rdf_sets.proofs.DeltaLemmas.{two_deltas, turned}
use Rattle.rdf_sets.proofs.delta.Delta.then.Goals as goal

pub returns : goal.returns
returns g c s t u d e = record {
  gained = two_deltas g.met.T.Item.in_order g.met.T.Item.apart s t u _ _ _ _ _ d e c.in_ok-added.ensures;
  lost = two_deltas g.met.T.Item.in_order g.met.T.Item.apart u t s _ _ _ _ _ (turned g.met.T.Item.in_order g.met.T.Item.apart t u _ _ e) (turned g.met.T.Item.in_order g.met.T.Item.apart s t _ _ d) c.in_ok-removed.ensures;
}
