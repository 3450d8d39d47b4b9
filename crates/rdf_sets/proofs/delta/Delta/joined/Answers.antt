use Rattle.std.proofs.Common.{◌∙◌}
use Rattle.std.specs.FinSet as set
use Rattle.rdf_sets.proofs.DeltaLemmas.{two_deltas, turned}
use Rattle.rdf_sets.proofs.delta.Delta.joined.Goals as goal

pub returns : goal.returns
returns g c s t u d e = record {
  gained = two_deltas g.met.T.Item.in_order g.met.T.Item.apart s t u _ _ _ _ _ d e
      (c.in_ok-added.ensures ∙ (λ i. set.union (c.in_ok-cancel.ensures.one i) (c.in_ok-cancel-2.ensures.one i)));
  lost = two_deltas g.met.T.Item.in_order g.met.T.Item.apart u t s _ _ _ _ _ (turned g.met.T.Item.in_order g.met.T.Item.apart t u _ _ e) (turned g.met.T.Item.in_order g.met.T.Item.apart s t _ _ d)
      (c.in_ok-removed.ensures ∙ (λ i. set.union (c.in_ok-cancel.ensures.other i) (c.in_ok-cancel-2.ensures.other i)));
}
