use Rattle.rdf_session.proofs.ListedLemmas.{lists_nothing}
use Rattle.rdf_session.proofs.places.Places.new.Goals as goal

pub invariant_of-result : goal.invariant_of-result
invariant_of-result c = rw (c.new.ensures.empty, c.new-2.ensures.empty) lists_nothing
