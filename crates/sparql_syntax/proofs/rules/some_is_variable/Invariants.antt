use Rattle.std.proofs.Common.{◌≡◌, drop}
use Rattle.std.specs.List.{list_any}
use Rattle.sparql_syntax.specs.Rules as spec
use Rattle.sparql_syntax.proofs.rules.some_is_variable.Given as goal

abbrev pub invariant-loop-name : goal.invariant-loop-name
invariant-loop-name l = list_any spec.is_variable l.names ≡ list_any spec.is_variable (drop l.name-index l.names)
