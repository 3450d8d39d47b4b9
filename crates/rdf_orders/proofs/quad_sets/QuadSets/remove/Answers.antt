use Rattle.std.proofs.Common.{◌∙◌, ap}
use Rattle.std.specs.FinSet as set
use Rattle.rdf_orders.specs.declared.order.Order.TheVariants.{Spo}
use Rattle.rdf_orders.specs.Contents.{Contents}
use Rattle.rdf_orders.specs.Quads.{quad_of}
use Rattle.rdf_orders.proofs.TreeLemmas.{quads_held, mirrors_itself, mirrors_loss, key_in_tree}
use Rattle.rdf_orders.proofs.quad_sets.QuadSets.remove.Goals as goal

pub invariant_of-self : goal.invariant_of-self
invariant_of-self c = mirrors_itself _ _ (mirrors_loss _ _ _ c.remove.ensures.keys _ c.self.invariant)

pub returns-clause-quads : goal.returns-clause-quads
returns-clause-quads c = λ i. record {
  quads = (quads_held _ _ (mirrors_loss _ _ _ c.remove.ensures.keys _ c.self.invariant) ∙ ap (λ (v : Contents). set.remove v.quads (quad_of c.args.quad.now)) c.self.view_is) i;
  names = ap (λ (v : Contents). v.names) c.self.view_is i;
}

pub returns-clause-was : goal.returns-clause-was
returns-clause-was c =
    c.remove.ensures.was ∙ key_in_tree _ _ c.self.invariant Spo (quad_of c.args.quad.now)
    ∙ ap (λ (v : Contents). set.contains v.quads (quad_of c.args.quad.now)) c.self.view_is
