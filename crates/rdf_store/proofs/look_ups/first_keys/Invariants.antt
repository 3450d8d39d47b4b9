use Rattle.std.proofs.Common.{◌≡◌, ◌≤◌, ◌-◌, ◌++◌, length, take}
use Rattle.rdf_orders.specs.Runs.{raised_by}
use Rattle.rdf_store.proofs.look_ups.first_keys.Given as goal

abbrev pub invariant-loop-many : goal.invariant-loop-many
invariant-loop-many l = record {
  long : length l.keys ≡ 8;
  few : l.many ≤ 8;
  most : l.many ≤ l.most;
  parted : l.fn.run.left ≡ take l.many l.keys ++ l.run.left;
  counted : l.run.looked ≡ raised_by l.many l.fn.run.looked;
}

abbrev pub decreases-loop-many : goal.decreases-loop-many
decreases-loop-many l = 8 - l.many
