use Rattle.rdf_orders.proofs.NextLemmas.{starts_after, starts_at, le_from_ge, lt_from_not_ge}
use Rattle.rdf_orders.proofs.next.start_of.Goals as goal

pub returns-in-Some : goal.returns-in-Some
returns-in-Some c =
    rw c.in-Some.is (starts_after _ _ c.least_key-least.ensures.begins c.least_key-least.ensures.least c.in-Some.after.now (le_from_ge c.in-Some.after.now c.least_key-least.result c.if-ge.ensures))

pub returns-in_default : goal.returns-in_default
returns-in_default c =
    rw c.in-Some.is (starts_at _ _ c.least_key-least.ensures.begins c.least_key-least.ensures.least _ (lt_from_not_ge c.in-Some.after.now c.least_key-least.result c.if-ge.ensures))
