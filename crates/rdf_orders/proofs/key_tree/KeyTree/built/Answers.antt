use Rattle.rdf_orders.proofs.WidthLemmas.{narrow_view, narrow_built, built_narrow}
use Rattle.rdf_orders.proofs.key_tree.KeyTree.built.Goals.{in-Narrow+in_ok-narrow_tree-in-Narrow, in_default+in_ok-wide_tree-in_default}
use Rattle.rdf_orders.proofs.key_tree.KeyTree.built.Goals as goal

pub invariant_of-result : goal.invariant_of-result
invariant_of-result c = elim c.match-spo.branch [
  | in-Narrow+in_ok-narrow_tree-in-Narrow w ↦
      rw w.nodes-is (built_narrow c.args.order c.args.spo.now _ c.args.quads.now (narrow_view _ _ _ c.spo.invariant c.spo.view_is w.in-Narrow.is)
      (w.are_narrow.ensures w.if-are_narrow.true) w.in_ok-narrow_tree-in-Narrow.ensures)
  | in_default+in_ok-wide_tree-in_default w ↦ rw w.nodes-is tt
]

pub returns : goal.returns
returns c = elim c.match-spo.branch [
  | in-Narrow+in_ok-narrow_tree-in-Narrow w ↦
      rw w.nodes-is (narrow_built c.args.order c.args.spo.now _ c.args.quads.now (narrow_view _ _ _ c.spo.invariant c.spo.view_is w.in-Narrow.is)
      (w.are_narrow.ensures w.if-are_narrow.true) w.in_ok-narrow_tree-in-Narrow.ensures)
  | in_default+in_ok-wide_tree-in_default w ↦ rw w.nodes-is w.in_ok-wide_tree-in_default.ensures
]
