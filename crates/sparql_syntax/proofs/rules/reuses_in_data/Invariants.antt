use Rattle.std.proofs.Common.{◌≡◌, [], drop}
use Rattle.std.specs.List.{flat_map}
use Rattle.sparql_syntax.specs.Labels.{repeats_label}
use Rattle.sparql_syntax.specs.Rules.{inserted_labels}
use Rattle.sparql_syntax.proofs.rules.reuses_in_data.Given as goal

abbrev pub invariant-loop-draft : goal.invariant-loop-draft
invariant-loop-draft l =
    repeats_label [] (flat_map inserted_labels l.drafts) ≡ repeats_label l.known.keys (flat_map inserted_labels (drop l.draft-index l.drafts))
