use Rattle.rdf_tokens.proofs.TokenTextLemmas as lemma
use Rattle.rdf_tokens.proofs.value.one_token_text.Goals as goal

pub returns : goal.returns
returns c = lemma.one_token_text
