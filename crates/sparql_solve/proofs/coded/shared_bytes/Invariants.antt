use Rattle.std.proofs.Common.{length, ◌-◌, ◌≡◌, ℕ, ◌<◌, ◌≤◌, slice_index}
use Rattle.sparql_solve.proofs.coded.shared_bytes.Given as goal

abbrev pub invariant-loop-many : goal.invariant-loop-many
invariant-loop-many l = record {
  within : l.many ≤ length l.left;
  within_other : l.many ≤ length l.right;
  alike : (k : ℕ) → k < l.many → slice_index l.left k ≡ slice_index l.right k;
}

abbrev pub decreases-loop-many : goal.decreases-loop-many
decreases-loop-many l = length l.left - l.many
