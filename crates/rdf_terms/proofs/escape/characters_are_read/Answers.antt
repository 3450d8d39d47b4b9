use Rattle.rdf_terms.proofs.UnescapeLemmas.{character_sound, character_complete}
use Rattle.rdf_terms.proofs.escape.characters_are_read.Goals as goal

pub returns-clause-sound : goal.returns-clause-sound
returns-clause-sound c = character_sound

pub returns-clause-complete : goal.returns-clause-complete
returns-clause-complete c = character_complete
