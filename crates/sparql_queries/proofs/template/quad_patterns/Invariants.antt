use Rattle.std.proofs.Common.{◌≡◌, map, take}
use Rattle.sparql_queries.specs.Templates as spec
use Rattle.sparql_queries.proofs.template.quad_patterns.Given as goal

abbrev pub invariant-loop-pattern : goal.invariant-loop-pattern
invariant-loop-pattern l = l.made ≡ map spec.quad_pattern (take l.pattern-index l.patterns)
