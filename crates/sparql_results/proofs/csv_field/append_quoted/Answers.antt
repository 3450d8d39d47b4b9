use Rattle.std.proofs.Common.{arith, ◌∙◌, ap, sym, ℕ, List, ◌++◌, append-nil, codes}
use Rattle.std.proofs.lemmas.Grind.{common_steps}
use Rattle.std.specs.List.{flat_map}
use Rattle.rdf_terms.proofs.CallerLemmas.{kept_on}
use Rattle.sparql_results.specs.CsvText.{doubled}
use Rattle.sparql_results.proofs.ItemLemmas.{all_written}
use Rattle.sparql_results.proofs.KeptLemmas.{kept_before_two, kept_same}
use Rattle.sparql_results.proofs.csv_field.append_quoted.Goals as goal

pub returns-in_err-push-clause-kept : goal.returns-in_err-push-clause-kept
returns-in_err-push-clause-kept c = kept_same _ _ c.in_err-push.ensures.items

pub loop-byte-init : goal.loop-byte-init
loop-byte-init c = sym (append-nil _)

pub loop-byte-preserved : goal.loop-byte-preserved
loop-byte-preserved c = grind (arith, common_steps)

pub returns-in_err-extend_from_slice-in-34-clause-kept : goal.returns-in_err-extend_from_slice-in-34-clause-kept
returns-in_err-extend_from_slice-in-34-clause-kept c =
    kept_before_two _ _ _ _ _ c.in_ok-push.ensures.items (c.in_err-extend_from_slice-in-34.ensures.items ∙ c.loop-byte.invariant)

pub returns-in_err-push-in_default-clause-kept : goal.returns-in_err-push-in_default-clause-kept
returns-in_err-push-in_default-clause-kept c =
    kept_before_two _ _ _ _ _ c.in_ok-push.ensures.items (c.in_err-push-in_default.ensures.items ∙ c.loop-byte.invariant)

pub returns-in_err-push-2-clause-kept : goal.returns-in_err-push-2-clause-kept
returns-in_err-push-2-clause-kept c = kept_before_two _ _ _ _ _ c.in_ok-push.ensures.items (c.in_err-push-2.ensures.items ∙ c.loop-byte.invariant)

pub returns-clause-ok : goal.returns-clause-ok
returns-clause-ok c =
    c.in_ok-push-2.ensures.items
    ∙ ap (λ (t : List ℕ). t ++ codes "\"")
    (all_written doubled _ c.args.text.now c.loop-byte.byte-index _ c.loop-byte-test.false c.loop-byte.invariant
    ∙ ap (λ (t : List ℕ). t ++ flat_map doubled c.args.text.now) c.in_ok-push.ensures.items)

pub returns-clause-kept : goal.returns-clause-kept
returns-clause-kept c =
    kept_on _ _ _ _ c.in_ok-push.ensures.items (kept_before_two _ _ _ _ _ c.loop-byte.invariant c.in_ok-push-2.ensures.items)
