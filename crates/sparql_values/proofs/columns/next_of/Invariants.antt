use Rattle.std.proofs.Common.{◌≡◌, ℕ, ◌-◌, ◌<◌, ◌≤◌, None, length}
use Rattle.sparql_values.specs.Mapping.{value_at}
use Rattle.sparql_values.proofs.columns.next_of.Given as goal

abbrev pub invariant-loop-column : goal.invariant-loop-column
invariant-loop-column l = record {
  after : l.from ≤ l.column;
  none : (i : ℕ) → l.from ≤ i → i < l.column → value_at l.values i ≡ None;
}

abbrev pub decreases-loop-column : goal.decreases-loop-column
decreases-loop-column l = length l.values - l.column
