use Rattle.std.proofs.Common.{◌≡◌, ◌+◌, ◌≤◌, length}
use Rattle.rdf_orders.specs.Quads.{matches}
use Rattle.rdf_orders.proofs.LookUpLemmas.{IsProgress, left_of}
use Rattle.rdf_orders.proofs.look_ups.look_up_some.Given as goal

abbrev pub invariant-loop-prefix : goal.invariant-loop-prefix
invariant-loop-prefix g l = record {
  kept : g.O.Orders.quads l.orders ≡ g.O.Orders.quads l.fn.orders;
  progress : IsProgress (g.O.Orders.quads l.fn.orders) (matches l.fn.graph l.fn.subject l.fn.predicate l.fn.object) l.order l.after l.fn.out.items l.out.items (g.O.Orders.count l.fn.orders) (g.O.Orders.count l.orders);
  few : length l.out.items ≤ length l.fn.out.items + l.fn.most;
}

abbrev pub decreases-loop-prefix : goal.decreases-loop-prefix
decreases-loop-prefix g l = left_of (g.O.Orders.quads l.orders) l.order l.after
