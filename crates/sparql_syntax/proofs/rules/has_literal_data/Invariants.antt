use Rattle.std.proofs.Common.{◌≡◌, drop}
use Rattle.std.specs.List.{list_any}
use Rattle.sparql_syntax.specs.Rules as spec
use Rattle.sparql_syntax.proofs.rules.has_literal_data.Given as goal

abbrev pub invariant-loop-draft : goal.invariant-loop-draft
invariant-loop-draft l = list_any spec.has_literal_subject l.drafts ≡ list_any spec.has_literal_subject (drop l.draft-index l.drafts)
