use Rattle.rdf_lines.proofs.LawLemmas.{law}
use Rattle.rdf_lines.proofs.reader.answers_are_the_document.Goals as goal

pub returns : goal.returns
returns c = law
