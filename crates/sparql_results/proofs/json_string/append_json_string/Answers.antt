use Rattle.std.proofs.Common.{◌∙◌, sym, append-nil, codes}
use Rattle.std.specs.List.{flat_map}
use Rattle.rdf_terms.proofs.CallerLemmas.{kept_on}
use Rattle.sparql_results.specs.JsonText.{json_byte}
use Rattle.sparql_results.proofs.ItemLemmas.{all_written, next_written}
use Rattle.sparql_results.proofs.KeptLemmas.{in_three, kept_before_two, kept_same}
use Rattle.sparql_results.proofs.json_string.append_json_string.Goals as goal

pub returns-in_err-append_json_byte-clause-kept : goal.returns-in_err-append_json_byte-clause-kept
returns-in_err-append_json_byte-clause-kept c =
    kept_before_two _ _ _ _ _ c.in_ok-push.ensures.items (c.in_err-append_json_byte.ensures.err ∙ c.loop-byte.invariant)

pub returns-in_err-push-2-clause-kept : goal.returns-in_err-push-2-clause-kept
returns-in_err-push-2-clause-kept c = kept_before_two _ _ _ _ _ c.in_ok-push.ensures.items (c.in_err-push-2.ensures.items ∙ c.loop-byte.invariant)

pub returns-clause-kept : goal.returns-clause-kept
returns-clause-kept c =
    kept_on _ _ _ _ c.in_ok-push.ensures.items (kept_before_two _ _ _ _ _ c.loop-byte.invariant c.in_ok-push-2.ensures.items)

pub returns-in_err-push-clause-kept : goal.returns-in_err-push-clause-kept
returns-in_err-push-clause-kept c = kept_same _ _ c.in_err-push.ensures.items

pub loop-byte-init : goal.loop-byte-init
loop-byte-init c = sym (append-nil _)

pub loop-byte-preserved : goal.loop-byte-preserved
loop-byte-preserved c =
    next_written json_byte _ _ c.loop-byte.byte-index 0 _ _ c.loop-byte-test.true c.loop-byte.invariant c.in_ok-append_json_byte.ensures.ok

pub returns-clause-ok : goal.returns-clause-ok
returns-clause-ok c =
    in_three c.args.out.now.items (codes "\"") (flat_map json_byte c.args.text.now) (codes "\"") _ _ _ c.in_ok-push.ensures.items
    (all_written json_byte _ c.args.text.now c.loop-byte.byte-index _ c.loop-byte-test.false c.loop-byte.invariant) c.in_ok-push-2.ensures.items
