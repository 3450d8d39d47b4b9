use Rattle.std.proofs.Common.{◌≡◌, ◌++◌, true, drop, map}
use Rattle.sparql_values.specs.Mapping.{value_in}
use Rattle.sparql_solve.specs.Shown.{apart}
use Rattle.sparql_solve.proofs.rows.Row.moved.Given as goal

abbrev pub invariant-loop-column : goal.invariant-loop-column
invariant-loop-column l = record {
  apart : apart (drop l.column-index l.columns) ≡ true;
  values : l.values.items ++ map (value_in l.own.items) (drop l.column-index l.columns) ≡ map (value_in l.fn.self) l.columns;
}
