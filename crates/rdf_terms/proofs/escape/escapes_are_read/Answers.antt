use Rattle.rdf_terms.proofs.QuotedLemmas.{escape_sound, escape_complete}
use Rattle.rdf_terms.proofs.escape.escapes_are_read.Goals as goal

pub returns-clause-sound : goal.returns-clause-sound
returns-clause-sound c = escape_sound

pub returns-clause-complete : goal.returns-clause-complete
returns-clause-complete c = escape_complete
