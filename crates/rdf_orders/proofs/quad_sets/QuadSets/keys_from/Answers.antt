use Rattle.std.proofs.Common.{ap}
use Rattle.rdf_orders.specs.declared.order.Order.TheVariants.{Spo}
use Rattle.rdf_orders.specs.Contents.{Contents}
use Rattle.rdf_orders.proofs.AheadLemmas.{keys_from}
use Rattle.rdf_orders.proofs.FromLemmas.{keys_from_listed}
use Rattle.rdf_orders.proofs.NextLemmas.{mirror_at}
use Rattle.rdf_orders.proofs.quad_sets.QuadSets.keys_from.Goals as goal

pub returns : goal.returns
returns c =
    keys_from_listed _ c.args.graph c.range_from.result
    (keys_from _ Spo _ c.of.result.now (mirror_at Spo _ _ _ _ c.of.ensures c.self.invariant (ap (λ (v : Contents). v.quads) c.self.view_is)) c.range_from.ensures.ordered c.range_from.result c.range_from.ensures.between)
