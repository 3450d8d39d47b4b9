use Rattle.std.proofs.Common.{◌≡◌, None, replicate}
use Rattle.sparql_values.proofs.columns.nones.Given as goal

abbrev pub invariant-loop-column : goal.invariant-loop-column
invariant-loop-column l = l.values.items ≡ replicate l._column None
