use Rattle.std.proofs.Common.{◌≡◌, ◌<◌, ◌≤◌, ◌-◌, true, drop, length, take}
use Rattle.std.specs.List.{list_all}
use Rattle.sparql_solve.specs.Under.{is_served}
use Rattle.sparql_solve.proofs.sharing.served_len.Given as goal

abbrev pub invariant-loop-len : goal.invariant-loop-len
invariant-loop-len l = record {
  some : 0 < l.len;
  within : l.len ≤ length l.rows;
  served : list_all (is_served l.asked) (drop 1 (take l.len l.rows)) ≡ true;
}

abbrev pub decreases-loop-len : goal.decreases-loop-len
decreases-loop-len l = length l.rows - l.len
