use Rattle.std.proofs.Common.{◌≡◌, ◌≤◌, ◌-◌, ◌++◌, length}
use Rattle.rdf_orders.specs.Runs.{raised_by}
use Rattle.rdf_store.proofs.look_ups.more_keys.Given as goal

abbrev pub invariant-loop-run : goal.invariant-loop-run
invariant-loop-run l = record {
  most : length l.keys.items ≤ l.most;
  more : length l.fn.keys.items ≤ length l.keys.items;
  parted : l.fn.keys.items ++ l.fn.run.left ≡ l.keys.items ++ l.run.left;
  counted : l.run.looked ≡ raised_by (length l.keys.items - length l.fn.keys.items) l.fn.run.looked;
}

abbrev pub decreases-loop-run : goal.decreases-loop-run
decreases-loop-run l = length l.run.left
