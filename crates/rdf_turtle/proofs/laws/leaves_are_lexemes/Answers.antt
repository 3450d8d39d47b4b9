use Rattle.rdf_turtle.proofs.GrammarLeaves.{leaves_are_lexemes}
use Rattle.rdf_turtle.proofs.laws.leaves_are_lexemes.Goals as goal

pub returns : goal.returns
returns c = leaves_are_lexemes
