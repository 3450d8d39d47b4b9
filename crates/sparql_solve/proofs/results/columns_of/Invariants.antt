use Rattle.std.proofs.Common.{◌≡◌, ◌++◌, drop, map}
use Rattle.sparql_values.specs.Mapping.{column}
use Rattle.sparql_solve.proofs.results.columns_of.Given as goal

abbrev pub invariant-loop-name : goal.invariant-loop-name
invariant-loop-name l = l.columns.items ++ map (column l.variables) (drop l.name-index l.names) ≡ map (column l.variables) l.names
