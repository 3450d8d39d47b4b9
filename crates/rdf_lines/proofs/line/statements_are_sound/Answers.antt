use Rattle.rdf_lines.proofs.SoundLemmas.{statements_are_sound}
use Rattle.rdf_lines.proofs.line.statements_are_sound.Goals as goal

pub returns : goal.returns
returns c = statements_are_sound
