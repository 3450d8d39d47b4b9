use Rattle.std.proofs.Common.{◌≡◌, drop}
use Rattle.std.specs.List.{list_any}
use Rattle.sparql_syntax.specs.Labels as spec
use Rattle.sparql_syntax.proofs.labels.knows_one.Given as goal

abbrev pub invariant-loop-label : goal.invariant-loop-label
invariant-loop-label l = list_any (spec.is_among l.known.keys) l.labels ≡ list_any (spec.is_among l.known.keys) (drop l.label-index l.labels)
