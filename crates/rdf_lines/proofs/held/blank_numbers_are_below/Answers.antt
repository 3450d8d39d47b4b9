use Rattle.rdf_lines.proofs.BlankLemmas.{numbers}
use Rattle.rdf_lines.proofs.held.blank_numbers_are_below.Goals as goal

pub returns : goal.returns
returns c = numbers
