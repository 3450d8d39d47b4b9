use Rattle.std.proofs.Common.{◌≡◌, ◌∙◌, ◌++◌, ap, codes, refl, List, ℕ}
use Rattle.sparql_results.specs.JsonText.{json_string, json_suffix}
use Rattle.sparql_results.proofs.KeptLemmas.{in_four, kept_before, kept_same, kept_through}
use Rattle.sparql_results.proofs.json_term.append_json_literal.Goals as goal

pub returns-in_err-append_json_suffix-clause-kept : goal.returns-in_err-append_json_suffix-clause-kept
returns-in_err-append_json_suffix-clause-kept c = kept_through _ _ _ c.append_json_field.ensures.kept c.append_json_suffix.ensures.kept

pub returns-in_err-push-clause-kept : goal.returns-in_err-push-clause-kept
returns-in_err-push-clause-kept c =
    kept_through _ _ _ c.append_json_field.ensures.kept (kept_through _ _ _ c.append_json_suffix.ensures.kept (kept_same _ _ c.in_err-push.ensures.items))

pub returns-clause-kept : goal.returns-clause-kept
returns-clause-kept c =
    kept_through _ _ _ c.append_json_field.ensures.kept (kept_through _ _ _ c.append_json_suffix.ensures.kept (kept_before _ _ _ c.in_ok-push.ensures.items))

pub returns-clause-ok : goal.returns-clause-ok
returns-clause-ok c =
    let opener = codes "{\"type\":\"literal\",\"value\":" in
    let value : c.append_json_field.new.out.items ≡ (c.args.out.now.items ++ opener) ++ json_string c.args.literal.now.lexical =
    c.in_ok-append_json_field.ensures.ok
    ∙ ap (λ (t : List ℕ). (c.args.out.now.items ++ opener) ++ json_string t) (c.as_bytes.ensures.value ∙ c.lexical.ensures.value) in
    in_four c.args.out.now.items opener (json_string c.args.literal.now.lexical)
    (json_suffix c.args.literal.now.datatype c.args.literal.now.tag) (codes "}") (c.args.out.now.items ++ opener) c.append_json_field.new.out.items
    c.append_json_suffix.new.out.items c.push.new.self.items refl value c.in_ok-append_json_suffix.ensures.ok c.in_ok-push.ensures.items
