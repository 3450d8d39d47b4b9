use Rattle.std.proofs.Common.{◌∙◌}
use Rattle.rdf_terms.proofs.CallerLemmas.{kept_on}
use Rattle.sparql_results.proofs.KeptLemmas.{kept_before_two, kept_over_three, kept_same}
use Rattle.sparql_results.proofs.json.append_json_member.Goals as goal

pub returns-in_err-extend_from_slice-clause-kept : goal.returns-in_err-extend_from_slice-clause-kept
returns-in_err-extend_from_slice-clause-kept c = kept_same _ _ c.in_err-extend_from_slice.ensures.items

pub returns-in_err-append_json_string-clause-kept : goal.returns-in_err-append_json_string-clause-kept
returns-in_err-append_json_string-clause-kept c = kept_on _ _ _ _ c.in_ok-extend_from_slice.ensures.items c.append_json_string.ensures.kept

pub returns-in_err-push-clause-kept : goal.returns-in_err-push-clause-kept
returns-in_err-push-clause-kept c =
    kept_before_two _ _ _ _ _ c.in_ok-extend_from_slice.ensures.items (c.in_err-push.ensures.items ∙ c.in_ok-append_json_string.ensures.ok)

pub returns-clause-kept : goal.returns-clause-kept
returns-clause-kept c =
    kept_over_three _ _ _ _ _ _ _ _ c.in_ok-extend_from_slice.ensures.items c.in_ok-append_json_string.ensures.ok c.in_ok-push.ensures.items c.append_json_term.ensures.kept
