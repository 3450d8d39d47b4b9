use Rattle.sparql_eval.proofs.OtherLemmas.{others_stay as law}
use Rattle.sparql_eval.proofs.laws.others_stay.Goals as goal

pub returns : goal.returns
returns c = law
