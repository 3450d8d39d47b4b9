use Rattle.sparql_eval.proofs.LawLemmas.{silent_changes_nothing as law}
use Rattle.sparql_eval.proofs.laws.silent_changes_nothing.Goals as goal

pub returns : goal.returns
returns c = law
