use Rattle.std.proofs.Common.{◌≡◌, ℕ, ◌-◌, ◌<◌, ◌≤◌, length, slice_index}
use Rattle.sparql_solve.specs.Coded.{codes_of}
use Rattle.sparql_solve.proofs.coded.run_end.Given as goal

abbrev pub invariant-loop-to : goal.invariant-loop-to
invariant-loop-to l = record {
  past : l.from < l.to;
  within : l.to ≤ length l.rows;
  alike : (k : ℕ) → l.from ≤ k → k < l.to → slice_index (codes_of l.rows) k ≡ l.code;
}

abbrev pub decreases-loop-to : goal.decreases-loop-to
decreases-loop-to l = length l.rows - l.to
