use Rattle.std.proofs.Common.{sym, ◌∙◌}
use Rattle.std.proofs.lemmas.Option.{same_Some, slice_get_within}
use Rattle.std.proofs.lemmas.Result.{IfOk-weaker}
use Rattle.rdf_lines.proofs.shared.kept_term.Goals as goal

pub term-requires : goal.term-requires
term-requires c = slice_get_within _ _ _ c.in_ok-id.ensures.id

pub returns : goal.returns
returns c = IfOk-weaker c.copy.result _ _ (λ t e. e ∙ same_Some _ _ (sym c.term.ensures ∙ c.in_ok-id.ensures.id)) c.copy.ensures
