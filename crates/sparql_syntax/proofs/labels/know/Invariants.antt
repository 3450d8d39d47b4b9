use Rattle.std.proofs.Common.{◌≡◌, drop}
use Rattle.sparql_syntax.specs.Labels as spec
use Rattle.sparql_syntax.proofs.labels.know.Given as goal

abbrev pub invariant-loop-label : goal.invariant-loop-label
invariant-loop-label l = spec.known_behind l.initial.known.keys l.labels ≡ spec.known_behind l.known.keys (drop l.label-index l.labels)
