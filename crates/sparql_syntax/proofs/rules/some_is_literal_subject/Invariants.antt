use Rattle.std.proofs.Common.{◌≡◌, drop}
use Rattle.std.specs.List.{list_any}
use Rattle.sparql_syntax.specs.Rules as spec
use Rattle.sparql_syntax.proofs.rules.some_is_literal_subject.Given as goal

abbrev pub invariant-loop-pattern : goal.invariant-loop-pattern
invariant-loop-pattern l = list_any (λ p. spec.is_literal p.subject) l.patterns ≡ list_any (λ p. spec.is_literal p.subject) (drop l.pattern-index l.patterns)
