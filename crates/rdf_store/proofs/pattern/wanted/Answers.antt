use Rattle.rdf_store.proofs.PatternLemmas.{wants_no_term, wants_term}
use Rattle.rdf_store.proofs.pattern.wanted.Goals as goal

pub returns-in_err-number-clause-absent : goal.returns-in_err-number-clause-absent
returns-in_err-number-clause-absent c = rw (c.from_residual.ensures, c.in-Some.is) (wants_no_term _ _ c.in_err-number.ensures.absent)

pub returns-clause-found : goal.returns-clause-found
returns-clause-found c = rw c.in-Some.is (wants_term _ c.terms_are_held_once.ensures.once _ _ c.in_ok-number.ensures.found)
