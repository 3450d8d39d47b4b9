use Rattle.rdf_terms.proofs.CallerLemmas.{kept_on}
use Rattle.sparql_results.proofs.json_term.append_json_field.Goals as goal

pub returns-clause-kept : goal.returns-clause-kept
returns-clause-kept c = kept_on _ _ _ _ c.in_ok-extend_from_slice.ensures.items c.append_json_string.ensures.kept
