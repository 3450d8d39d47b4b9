use Rattle.sparql_eval.proofs.ModifyLawLemmas.{insert_data_is_modify as law}
use Rattle.sparql_eval.proofs.laws.insert_data_is_modify.Goals as goal

pub returns : goal.returns
returns c = law
