use Rattle.rdf_keeper.proofs.ScriptLemmas.Pieces.{pieces_are_the_text}
use Rattle.rdf_keeper.proofs.law.pieces_are_the_script.Goals as goal

pub returns : goal.returns
returns c = pieces_are_the_text
