use Rattle.std.proofs.Common.{refl}
use Rattle.rdf_orders.specs.declared.order.Order.TheVariants.{Pos, Osp}
use Rattle.rdf_orders.specs.Quads.{key_in, quad_of}
use Rattle.rdf_orders.proofs.TreeLemmas.{gains_key, gains_first, on_err_of}
use Rattle.rdf_orders.proofs.trees.Trees.insert_behind.Goals as goal

pub returns-in_err-insert-2-clause-err : goal.returns-in_err-insert-2-clause-err
returns-in_err-insert-2-clause-err c =
    on_err_of c.from_residual-in_err-insert-2.result
    (gains_first _ _ _ refl (gains_key _ _ _ (key_in Pos (quad_of c.args.quad.now)) c.arrange.ensures c.in_ok-insert.ensures.updates) c.in_err-insert-2.ensures.err)

pub returns-clause-ok : goal.returns-clause-ok
returns-clause-ok c = record {
  first = refl;
  pos = gains_key _ _ _ (key_in Pos (quad_of c.args.quad.now)) c.arrange.ensures c.in_ok-insert.ensures.updates;
  osp = gains_key _ _ _ (key_in Osp (quad_of c.args.quad.now)) c.arrange-2.ensures c.in_ok-insert-2.ensures.updates;
}
