use Rattle.rdf_lines.proofs.LawLemmas.{one_document}
use Rattle.rdf_lines.proofs.held.each_text_is_one_document.Goals as goal

pub returns : goal.returns
returns c = one_document
