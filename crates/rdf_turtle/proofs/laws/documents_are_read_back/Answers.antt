use Rattle.rdf_turtle.proofs.ReadBackLemmas.{well_formed, in_order, read_back}
use Rattle.rdf_turtle.proofs.laws.documents_are_read_back.Goals as goal

pub returns-clause-well_formed : goal.returns-clause-well_formed
returns-clause-well_formed c = well_formed

pub returns-clause-in_order : goal.returns-clause-in_order
returns-clause-in_order c = in_order

pub returns-clause-read_back : goal.returns-clause-read_back
returns-clause-read_back c = read_back
