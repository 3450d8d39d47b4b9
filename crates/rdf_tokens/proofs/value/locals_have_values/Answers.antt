use Rattle.rdf_tokens.proofs.ValueNames.{local_meaning, local_value_is}
use Rattle.rdf_tokens.proofs.value.locals_have_values.Goals as goal

pub returns-clause-there : goal.returns-clause-there
returns-clause-there c = local_meaning

pub returns-clause-value : goal.returns-clause-value
returns-clause-value c = local_value_is
