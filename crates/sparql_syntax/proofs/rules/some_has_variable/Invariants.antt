use Rattle.std.proofs.Common.{◌≡◌, drop}
use Rattle.std.specs.List.{list_any}
use Rattle.sparql_syntax.specs.Rules as spec
use Rattle.sparql_syntax.proofs.rules.some_has_variable.Given as goal

abbrev pub invariant-loop-pattern : goal.invariant-loop-pattern
invariant-loop-pattern l = list_any spec.has_variable l.patterns ≡ list_any spec.has_variable (drop l.pattern-index l.patterns)
