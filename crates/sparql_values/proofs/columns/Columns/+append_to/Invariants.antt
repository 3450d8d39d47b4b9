use Rattle.std.proofs.Common.{◌≡◌, ◌++◌, None, replicate}
use Rattle.sparql_values.proofs.columns.Columns.+append_to.Given as goal

abbrev pub invariant-loop-column : goal.invariant-loop-column
invariant-loop-column l = l.out.items ≡ l.initial.out.items ++ replicate l._column None
