use Rattle.std.proofs.Common.{arith, ◌∙◌, sym, append-nil}
use Rattle.std.proofs.lemmas.Grind.{common_steps}
use Rattle.sparql_results.specs.ResultsText.{without_tab}
use Rattle.sparql_results.proofs.ItemLemmas.{all_written}
use Rattle.sparql_results.proofs.KeptLemmas.{kept_before}
use Rattle.sparql_results.proofs.field.append_without_tabs.Goals as goal

pub loop-byte-init : goal.loop-byte-init
loop-byte-init c = sym (append-nil _)

pub loop-byte-preserved : goal.loop-byte-preserved
loop-byte-preserved c = grind (arith, common_steps)

pub returns-in_err-extend_from_slice-in-9-clause-kept : goal.returns-in_err-extend_from_slice-in-9-clause-kept
returns-in_err-extend_from_slice-in-9-clause-kept c = kept_before _ _ _ (c.in_err-extend_from_slice-in-9.ensures.items ∙ c.loop-byte.invariant)

pub returns-in_err-push-in_default-clause-kept : goal.returns-in_err-push-in_default-clause-kept
returns-in_err-push-in_default-clause-kept c = kept_before _ _ _ (c.in_err-push-in_default.ensures.items ∙ c.loop-byte.invariant)

pub returns-clause-ok : goal.returns-clause-ok
returns-clause-ok c = all_written without_tab _ c.args.text.now c.loop-byte.byte-index _ c.loop-byte-test.false c.loop-byte.invariant

pub returns-clause-kept : goal.returns-clause-kept
returns-clause-kept c = kept_before _ _ _ c.loop-byte.invariant
