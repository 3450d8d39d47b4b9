use Rattle.rdf_tokens.proofs.ValueTexts.{text_value_is}
use Rattle.rdf_tokens.proofs.value.texts_have_values.Goals as goal

pub returns : goal.returns
returns c = text_value_is
