use Rattle.rdf_terms.proofs.QuotedLemmas.{iri_sound, iri_complete}
use Rattle.rdf_terms.proofs.quoted.iris_are_read.Goals as goal

pub returns-clause-sound : goal.returns-clause-sound
returns-clause-sound c = iri_sound

pub returns-clause-complete : goal.returns-clause-complete
returns-clause-complete c = iri_complete
