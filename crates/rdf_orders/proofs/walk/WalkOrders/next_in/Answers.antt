use Rattle.std.proofs.Common.{arith}
use Rattle.std.proofs.lemmas.Grind.{common_steps}
use Rattle.rdf_orders.proofs.AheadLemmas.{first_is_next, none_behind_run}
use Rattle.rdf_orders.proofs.NextLemmas.{begins_from, not_begins_from}
use Rattle.rdf_orders.proofs.walk.WalkOrders.next_in.Goals as goal

pub returns-then-not-starts_with-clause-next : goal.returns-then-not-starts_with-clause-next
returns-then-not-starts_with-clause-next c =
    none_behind_run _ _ _ _ _ _ c.in_ok-key.ensures.first.ahead (not_begins_from c.args.prefix.now c.in_ok-key.key _ c.starts_with.ensures.value c.if-not-starts_with.true)

pub returns-clause-next : goal.returns-clause-next
returns-clause-next c =
    first_is_next _ _ _ _ _ _ c.in_ok-key.ensures.first.ahead (begins_from c.args.prefix.now c.in_ok-key.key _ c.starts_with.ensures.value c.if-not-starts_with.false)

pub returns-then-prefix-gt4-clause-next : goal.returns-then-prefix-gt4-clause-next
returns-then-prefix-gt4-clause-next c = grind (arith, common_steps)
