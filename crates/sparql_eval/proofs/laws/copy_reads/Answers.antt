use Rattle.sparql_eval.proofs.LawLemmas.{copy_reads as law}
use Rattle.sparql_eval.proofs.laws.copy_reads.Goals as goal

pub returns : goal.returns
returns c = law
