use Rattle.sparql_eval.proofs.LawLemmas.{move_is_copy_then_drop as law}
use Rattle.sparql_eval.proofs.laws.move_is_copy_then_drop.Goals as goal

pub returns : goal.returns
returns c = law
