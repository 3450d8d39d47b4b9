use Rattle.sparql_eval.proofs.ModifyLawLemmas.{modify_deletes_then_inserts as law}
use Rattle.sparql_eval.proofs.laws.modify_deletes_then_inserts.Goals as goal

pub returns : goal.returns
returns c = law
