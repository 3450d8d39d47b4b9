use Rattle.std.proofs.Common.{arith, ◌∙◌}
use Rattle.std.proofs.lemmas.Grind.{common_steps}
use Rattle.sparql_results.proofs.KeptLemmas.{kept_before, kept_before_two, kept_same}
use Rattle.sparql_results.proofs.header.append_column.Goals as goal

pub returns-in_err-push-clause-kept : goal.returns-in_err-push-clause-kept
returns-in_err-push-clause-kept c = kept_same _ _ c.in_err-push.ensures.items

pub returns-in_err-extend_from_slice-clause-kept : goal.returns-in_err-extend_from_slice-clause-kept
returns-in_err-extend_from_slice-clause-kept c = kept_before _ _ _ (c.in_err-extend_from_slice.ensures.items ∙ c.in_ok-push.ensures.items)

pub returns-clause-ok : goal.returns-clause-ok
returns-clause-ok c = grind (arith, common_steps)

pub returns-clause-kept : goal.returns-clause-kept
returns-clause-kept c = kept_before_two _ _ _ _ _ c.in_ok-push.ensures.items c.in_ok-extend_from_slice.ensures.items
