use Rattle.rdf_lines.proofs.StateCheckLemmas.{state_texts_differ}
use Rattle.rdf_lines.proofs.state_text.state_texts_differ.Goals as goal

pub returns : goal.returns
returns c = state_texts_differ
