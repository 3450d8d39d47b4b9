use Rattle.rdf_tokens.proofs.TokenLists.{one_token_list}
use Rattle.rdf_tokens.proofs.tokenizer.one_token_list.Goals as goal

pub returns : goal.returns
returns c = one_token_list
