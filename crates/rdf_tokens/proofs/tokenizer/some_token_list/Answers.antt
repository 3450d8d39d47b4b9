use Rattle.rdf_tokens.proofs.TokenLaws.{some_token_list}
use Rattle.rdf_tokens.proofs.tokenizer.some_token_list.Goals as goal

pub returns : goal.returns
returns c = some_token_list
