use Rattle.rdf_turtle.proofs.FaultyNameLemmas.{unbound_is_found, lacking_is_found}
use Rattle.rdf_turtle.proofs.laws.faulty_names_are_found.Goals as goal

pub returns-clause-unbound : goal.returns-clause-unbound
returns-clause-unbound c = unbound_is_found

pub returns-clause-lacking : goal.returns-clause-lacking
returns-clause-lacking c = lacking_is_found
