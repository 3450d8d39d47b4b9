use Rattle.rdf_orders.proofs.WidthLemmas.{gained, narrow_gained}
use Rattle.rdf_orders.proofs.key_tree.KeyTree.insert.Goals as goal

pub invariant_of-self-in-Some : goal.invariant_of-self-in-Some
invariant_of-self-in-Some c =
    narrow_gained _ _ (rw c.in-Narrow.is at c.self.invariant) c.args.key.now c.in-Some.ensures.fits
    (gained _ _ _ _ c.in-Some.ensures.found c.in_ok-insert-in-Some.ensures.updates)
