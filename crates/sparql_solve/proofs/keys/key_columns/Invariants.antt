use Rattle.std.proofs.Common.{◌≡◌, ◌≤◌, ◌-◌, filter}
use Rattle.std.specs.List.{range_with_len}
use Rattle.sparql_solve.specs.Keys.{all_bind}
use Rattle.sparql_solve.proofs.KeyLemmas.{rows_of}
use Rattle.sparql_solve.proofs.keys.key_columns.Given as goal

abbrev pub invariant-loop-from : goal.invariant-loop-from
invariant-loop-from l = record {
  kept : l.columns.items ≡ filter (all_bind (rows_of l.left) (rows_of l.right)) (range_with_len 0 l.from);
  within : l.from ≤ l.len;
}

abbrev pub decreases-loop-from : goal.decreases-loop-from
decreases-loop-from l = l.len - l.from
