use Rattle.rdf_turtle.proofs.GrammarLeaves.{documents_have_subjects}
use Rattle.rdf_turtle.proofs.laws.documents_have_subjects.Goals as goal

pub returns : goal.returns
returns c = documents_have_subjects
