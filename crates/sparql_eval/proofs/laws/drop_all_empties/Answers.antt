use Rattle.sparql_eval.proofs.LawLemmas.{drop_all_empties as law}
use Rattle.sparql_eval.proofs.laws.drop_all_empties.Goals as goal

pub returns : goal.returns
returns c = law
