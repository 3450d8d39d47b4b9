use Rattle.std.proofs.Common.{◌≡◌, [], drop}
use Rattle.std.specs.List.{flat_map}
use Rattle.sparql_syntax.specs.Labels.{repeats_label}
use Rattle.sparql_syntax.specs.Rules.{pattern_labels}
use Rattle.sparql_syntax.proofs.rules.reuses_in_patterns.Given as goal

abbrev pub invariant-loop-draft : goal.invariant-loop-draft
invariant-loop-draft l =
    repeats_label [] (flat_map pattern_labels l.drafts) ≡ repeats_label l.known.keys (flat_map pattern_labels (drop l.draft-index l.drafts))
