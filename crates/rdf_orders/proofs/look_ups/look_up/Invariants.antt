use Rattle.std.proofs.Common.{◌≡◌}
use Rattle.rdf_orders.specs.Quads.{matches}
use Rattle.rdf_orders.proofs.LookUpLemmas.{IsProgress, left_of}
use Rattle.rdf_orders.proofs.look_ups.look_up.Given as goal

abbrev pub invariant-loop-key : goal.invariant-loop-key
invariant-loop-key g l = record {
  kept : g.O.Orders.quads l.orders ≡ g.O.Orders.quads l.fn.orders;
  progress : IsProgress (g.O.Orders.quads l.fn.orders) (matches l.fn.graph l.fn.subject l.fn.predicate l.fn.object) l.order l.after l.fn.out.items l.out.items (g.O.Orders.count l.fn.orders) (g.O.Orders.count l.orders);
}

abbrev pub decreases-loop-key : goal.decreases-loop-key
decreases-loop-key g l = left_of (g.O.Orders.quads l.orders) l.order l.after
