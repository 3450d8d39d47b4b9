use Rattle.std.proofs.Common.{◌∙◌, ap, sym, ℕ, List, ◌++◌, append-nil, codes}
use Rattle.sparql_results.specs.JsonText.{json_string}
use Rattle.sparql_results.proofs.ItemLemmas.{all_joined, next_joined}
use Rattle.sparql_results.proofs.KeptLemmas.{kept_before, kept_in_loop, kept_through}
use Rattle.sparql_results.proofs.json.append_json_names.Goals as goal

pub returns-in_err-push-clause-kept : goal.returns-in_err-push-clause-kept
returns-in_err-push-clause-kept c =
    kept_through _ _ _ c.append_json_string.ensures.kept (kept_before _ _ _ (c.in_err-push.ensures.items ∙ c.loop-name.invariant))

pub returns-in_err-append_json_string-2-clause-kept : goal.returns-in_err-append_json_string-2-clause-kept
returns-in_err-append_json_string-2-clause-kept c =
    kept_in_loop _ _ _ _ _ _ _ c.append_json_string.ensures.kept c.loop-name.invariant c.in_ok-push.ensures.items c.append_json_string-in-loop-name.ensures.kept

pub returns-clause-kept : goal.returns-clause-kept
returns-clause-kept c = kept_through _ _ _ c.append_json_string.ensures.kept (kept_before _ _ _ c.loop-name.invariant)

pub loop-name-init : goal.loop-name-init
loop-name-init c = sym (append-nil _)

pub loop-name-preserved : goal.loop-name-preserved
loop-name-preserved c =
    next_joined json_string (codes ",") _ _ c.loop-name.name-index c.name-item.result _ _ _ c.loop-name-test.true c.name-item.is c.loop-name.invariant
    c.in_ok-push.ensures.items
    (c.in_ok-append_json_string-2.ensures.ok
    ∙ ap (λ (t : List ℕ). c.push.new.self.items ++ json_string t) (c.as_bytes-in-loop-name.ensures.value ∙ c.as_str-in-loop-name.ensures.value))

pub returns-clause-ok : goal.returns-clause-ok
returns-clause-ok c =
    all_joined json_string (codes ",") c.args.out.now.items c.args.columns.now c.first-item.result c.loop-name.name-index _ _ c.in-len1-up.len_at_least
    c.first-item.is
    (c.in_ok-append_json_string.ensures.ok ∙ ap (λ (t : List ℕ). c.args.out.now.items ++ json_string t) (c.as_bytes.ensures.value ∙ c.as_str.ensures.value))
    c.loop-name-test.false c.loop-name.invariant
