use Rattle.rdf_turtle.proofs.GrammarWhole.{document_unique}
use Rattle.rdf_turtle.proofs.laws.one_document.Goals as goal

pub returns : goal.returns
returns c = document_unique
