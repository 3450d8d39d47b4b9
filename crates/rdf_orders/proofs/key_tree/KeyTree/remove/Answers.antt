use Rattle.std.proofs.Common.{refl}
use Rattle.rdf_orders.proofs.WidthLemmas.{lost, lost_nothing, narrow_lost}
use Rattle.rdf_orders.proofs.key_tree.KeyTree.remove.Goals.{in-Narrow+in-Some, in-Narrow+in-None, in-Wide}
use Rattle.rdf_orders.proofs.key_tree.KeyTree.remove.Goals as goal

pub invariant_of-self : goal.invariant_of-self
invariant_of-self c = elim c.match-self.branch [
  | in-Narrow+in-Some w ↦ rw w.self-inside-is (narrow_lost _ _ (rw w.in-Narrow.is at c.self.invariant) c.args.key.now (lost _ _ _ _ w.in-Some.ensures.found w.remove.ensures.updates))
  | in-Narrow+in-None w ↦ rw w.self-inside-is (rw w.in-Narrow.is at c.self.invariant)
  | in-Wide w ↦ rw w.self-inside-is tt
]

pub returns-clause-updates : goal.returns-clause-updates
returns-clause-updates c = elim c.match-self.branch [
  | in-Narrow+in-Some w ↦ rw (w.self-inside-is, ← c.self.view_is, w.in-Narrow.is) (lost _ _ _ _ w.in-Some.ensures.found w.remove.ensures.updates)
  | in-Narrow+in-None w ↦ rw (w.self-inside-is, ← c.self.view_is, w.in-Narrow.is) (lost_nothing _ (rw w.in-Narrow.is at c.self.invariant) c.args.key.now w.in-None.ensures.absent)
  | in-Wide w ↦ rw (w.self-inside-is, ← c.self.view_is, w.in-Wide.is) (lost _ _ _ _ refl w.remove-in-Wide.ensures.updates)
]
