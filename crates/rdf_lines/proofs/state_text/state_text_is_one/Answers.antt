use Rattle.rdf_lines.proofs.StateCheckLemmas.{state_text_is_one}
use Rattle.rdf_lines.proofs.state_text.state_text_is_one.Goals as goal

pub returns : goal.returns
returns c = state_text_is_one
