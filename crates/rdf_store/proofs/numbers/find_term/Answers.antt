use Rattle.rdf_store.proofs.NumberLemmas.{lacks_from_absent}
use Rattle.rdf_store.proofs.numbers.find_term.Goals as goal

pub returns-in-None-clause-absent : goal.returns-in-None-clause-absent
returns-in-None-clause-absent c = lacks_from_absent _ _ c.in-None.ensures.absent
