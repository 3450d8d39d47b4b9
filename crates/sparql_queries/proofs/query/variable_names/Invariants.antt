use Rattle.std.proofs.Common.{◌≡◌, map, take}
use Rattle.sparql_queries.specs.Variables as spec
use Rattle.sparql_queries.proofs.query.variable_names.Given as goal

abbrev pub invariant-loop-variable : goal.invariant-loop-variable
invariant-loop-variable l = l.names ≡ map spec.variable_name (take l.variable-index l.variables)
