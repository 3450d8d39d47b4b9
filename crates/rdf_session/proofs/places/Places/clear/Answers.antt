use Rattle.rdf_session.proofs.ListedLemmas.{lists_nothing}
use Rattle.rdf_session.proofs.places.Places.clear.Goals as goal

pub invariant_of-self : goal.invariant_of-self
invariant_of-self c = rw (c.clear.ensures.empty, c.clear-2.ensures.empty) lists_nothing
