use Rattle.rdf_orders.proofs.AheadLemmas.{behind_next}
use Rattle.rdf_orders.proofs.walk.Walk.key_ahead.Goals as goal

pub invariant_of-self : goal.invariant_of-self
invariant_of-self c = c.next_key.ensures.kept _ (rw c.in-Some.is at c.self.invariant)

pub invariant_of-self-2 : goal.invariant_of-self-2
invariant_of-self-2 c =
    let ahead = rw c.in_ok-key.ensures.steps at c.keys_ahead-behind.ensures in
    behind_next _ _ _ _ _ _ ahead
