use Rattle.rdf_tokens.proofs.TokenLaws.{tokens_have_forms}
use Rattle.rdf_tokens.proofs.tokenizer.tokens_have_forms.Goals as goal

pub returns : goal.returns
returns c = tokens_have_forms
