use Rattle.rdf_tokens.proofs.ValueIris.{iri_value_is, iri_value_allowed}
use Rattle.rdf_tokens.proofs.value.iris_have_values.Goals as goal

pub returns-clause-value : goal.returns-clause-value
returns-clause-value c = iri_value_is

pub returns-clause-allowed : goal.returns-clause-allowed
returns-clause-allowed c = iri_value_allowed
