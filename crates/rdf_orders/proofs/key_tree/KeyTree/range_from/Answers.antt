use Rattle.std.proofs.Common.{◌∙◌}
use Rattle.rdf_orders.proofs.WidthLemmas.{same_range}
use Rattle.rdf_orders.proofs.key_tree.KeyTree.range_from.Goals.{in-Narrow, in-Wide}
use Rattle.rdf_orders.proofs.key_tree.KeyTree.range_from.Goals as goal

pub returns-clause-between : goal.returns-clause-between
returns-clause-between c = elim c.match-self.branch [
  | in-Narrow w ↦ rw (w.keys-is, ← c.self.view_is, w.in-Narrow.is) (w.range.ensures.between tt ∙ same_range _ (rw w.in-Narrow.is at c.self.invariant) _ _ w.narrow_bound.ensures)
  | in-Wide w ↦ rw (w.keys-is, ← c.self.view_is, w.in-Wide.is) (w.range-in-Wide.ensures.between tt)
]
