use Rattle.std.proofs.Common.{◌≡◌, ◌∙◌, ap, sym, length, rules}
use Rattle.std.specs.BTreeSet.{contains}
use Rattle.rdf_orders.specs.declared.order.Order.TheVariants.{Spo, Pos, Osp}
use Rattle.rdf_orders.specs.Quads.{key_cmp, key_in, quad_of}
use Rattle.rdf_orders.proofs.TreeLemmas.{key_in-quad_at, loses_key, loses_of}
use Rattle.rdf_orders.proofs.trees.Trees.remove.Goals as goal

pub returns-clause-keys : goal.returns-clause-keys
returns-clause-keys c =
    let four : length c.args.quad.now ≡ 4 = search rules in
    loses_of _ _ _
    (loses_key _ _ c.args.quad.now (key_in Spo (quad_of c.args.quad.now)) (sym (key_in-quad_at Spo c.args.quad.now four)) c.remove-3.ensures.updates)
    (loses_key _ _ _ (key_in Pos (quad_of c.args.quad.now)) c.arrange.ensures c.remove.ensures.updates)
    (loses_key _ _ _ (key_in Osp (quad_of c.args.quad.now)) c.arrange-2.ensures c.remove-2.ensures.updates)

pub returns-clause-was : goal.returns-clause-was
returns-clause-was c =
    let four : length c.args.quad.now ≡ 4 = search rules in
    c.remove-3.ensures.test ∙ ap (contains key_cmp c.args.self.now.spo) (sym (key_in-quad_at Spo c.args.quad.now four))
