use Rattle.rdf_turtle.proofs.WrittenDocuments.{written_triples_are_turtle}
use Rattle.rdf_turtle.proofs.laws.written_triples_are_turtle.Goals as goal

pub returns : goal.returns
returns c = written_triples_are_turtle
