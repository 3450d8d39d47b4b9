use Rattle.std.proofs.Common.{◌≡◌, drop}
use Rattle.sparql_syntax.specs.Labels as spec
use Rattle.sparql_syntax.proofs.labels.repeats_label.Given as goal

abbrev pub invariant-loop-labels : goal.invariant-loop-labels
invariant-loop-labels l = record {
  repeats : spec.repeats_label l.initial.known.keys l.lists ≡ spec.repeats_label l.known.keys (drop l.labels-index l.lists);
  knows : spec.all_known_behind l.initial.known.keys l.lists ≡ spec.all_known_behind l.known.keys (drop l.labels-index l.lists);
}
