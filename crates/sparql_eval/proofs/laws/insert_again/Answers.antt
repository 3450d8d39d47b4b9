use Rattle.sparql_eval.proofs.LawLemmas.{insert_again as law}
use Rattle.sparql_eval.proofs.laws.insert_again.Goals as goal

pub returns : goal.returns
returns c = law
