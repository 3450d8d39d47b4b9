use Rattle.sparql_eval.proofs.LawLemmas.{one_answer as law}
use Rattle.sparql_eval.proofs.laws.one_answer.Goals as goal

pub returns : goal.returns
returns c = law
