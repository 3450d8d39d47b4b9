use Rattle.std.proofs.Common.{ap}
use Rattle.rdf_orders.specs.Contents.{Contents}
use Rattle.rdf_orders.proofs.AheadLemmas.{keys_from}
use Rattle.rdf_orders.proofs.NextLemmas.{mirror_at}
use Rattle.rdf_orders.proofs.quad_sets.QuadSets.keys_ahead.Goals as goal

pub returns : goal.returns
returns c = record {
  start = c.start_of-start.result;
  starts = c.start_of-start.ensures;
  from = keys_from _ _ c.start_of-start.result c.of.result.now (mirror_at _ _ _ _ _ c.of.ensures c.self.invariant (ap (λ (v : Contents). v.quads) c.self.view_is))
      c.range_from.ensures.ordered c.range_from.result c.range_from.ensures.between;
}
