use Rattle.std.proofs.Common.{◌∙◌}
use Rattle.rdf_terms.proofs.CallerLemmas.{kept_on}
use Rattle.sparql_results.proofs.KeptLemmas.{in_three, kept_before_two, kept_same}
use Rattle.sparql_results.proofs.json.append_json_header.Goals as goal

pub returns-in_err-extend_from_slice-clause-kept : goal.returns-in_err-extend_from_slice-clause-kept
returns-in_err-extend_from_slice-clause-kept c = kept_same _ _ c.in_err-extend_from_slice.ensures.items

pub returns-in_err-append_json_names-clause-kept : goal.returns-in_err-append_json_names-clause-kept
returns-in_err-append_json_names-clause-kept c = kept_on _ _ _ _ c.in_ok-extend_from_slice.ensures.items c.append_json_names.ensures.kept

pub returns-in_err-extend_from_slice-2-clause-kept : goal.returns-in_err-extend_from_slice-2-clause-kept
returns-in_err-extend_from_slice-2-clause-kept c =
    kept_before_two _ _ _ _ _ c.in_ok-extend_from_slice.ensures.items (c.in_err-extend_from_slice-2.ensures.items ∙ c.in_ok-append_json_names.ensures.ok)

pub returns-clause-ok : goal.returns-clause-ok
returns-clause-ok c =
    in_three _ _ _ _ _ _ _ c.in_ok-extend_from_slice.ensures.items c.in_ok-append_json_names.ensures.ok c.in_ok-extend_from_slice-2.ensures.items

pub returns-clause-kept : goal.returns-clause-kept
returns-clause-kept c =
    kept_on _ _ _ _ c.in_ok-extend_from_slice.ensures.items (kept_before_two _ _ _ _ _ c.in_ok-append_json_names.ensures.ok c.in_ok-extend_from_slice-2.ensures.items)
