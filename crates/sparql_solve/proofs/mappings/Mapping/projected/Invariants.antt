use Rattle.std.proofs.Common.{◌≡◌, ◌++◌, drop, map}
use Rattle.sparql_values.specs.Mapping.{value_in}
use Rattle.sparql_solve.proofs.mappings.Mapping.projected.Given as goal

abbrev pub invariant-loop-column : goal.invariant-loop-column
invariant-loop-column l = l.values.items ++ map (value_in l.self) (drop l.column-index l.columns) ≡ map (value_in l.self) l.columns
