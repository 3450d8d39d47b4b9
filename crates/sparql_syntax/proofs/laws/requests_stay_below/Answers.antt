use Rattle.sparql_syntax.proofs.RequestBlankLemmas as lemma
use Rattle.sparql_syntax.proofs.laws.requests_stay_below.Goals as goal

pub returns : goal.returns
returns c = lemma.requests_stay_below
