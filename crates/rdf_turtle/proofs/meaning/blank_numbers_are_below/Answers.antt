use Rattle.rdf_turtle.proofs.ScopeBlanks.{numbers}
use Rattle.rdf_turtle.proofs.meaning.blank_numbers_are_below.Goals as goal

pub returns : goal.returns
returns c = numbers
