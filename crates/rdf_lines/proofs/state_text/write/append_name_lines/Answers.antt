use Rattle.rdf_terms.proofs.CallerLemmas.{kept_on}
use Rattle.rdf_lines.proofs.state_text.write.append_name_lines.Goals as goal

pub returns-in_err-append_name-clause-kept : goal.returns-in_err-append_name-clause-kept
returns-in_err-append_name-clause-kept c = kept_on _ _ _ _ c.loop-name.invariant c.append_name.ensures.kept
