use Rattle.sparql_results.proofs.KeptLemmas.{kept_over_three}
use Rattle.sparql_results.proofs.plain.append_as_it_is.Goals as goal

pub returns-clause-kept : goal.returns-clause-kept
returns-clause-kept c =
    kept_over_three _ _ _ _ _ _ _ _ c.in_ok-extend_from_slice.ensures.items c.in_ok-extend_from_slice-2.ensures.items c.in_ok-extend_from_slice-3.ensures.items
    c.append_suffix.ensures.kept
