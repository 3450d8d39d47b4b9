use Rattle.rdf_terms.proofs.ResolutionLemmas.{means_there, means_once}
use Rattle.rdf_terms.proofs.resolution_laws.one_reference_meaning.Goals as goal

pub returns-clause-there : goal.returns-clause-there
returns-clause-there c = means_there

pub returns-clause-unique : goal.returns-clause-unique
returns-clause-unique c = means_once
