use Rattle.rdf_terms.specs.Rewriting.{components_of}
use Rattle.rdf_terms.proofs.ReferenceLemmas.{components_there, components_unique, base_unique}
use Rattle.rdf_terms.proofs.resolution_laws.components_are_unique.Goals as goal

pub returns-clause-there : goal.returns-clause-there
returns-clause-there c = λ text. (components_of text, components_there text)

pub returns-clause-unique : goal.returns-clause-unique
returns-clause-unique c = components_unique

pub returns-clause-base : goal.returns-clause-base
returns-clause-base c = base_unique
