use Rattle.sparql_eval.proofs.ModifyLawLemmas.{each_solution_has_its_own_blank_nodes as law}
use Rattle.sparql_eval.proofs.laws.each_solution_has_its_own_blank_nodes.Goals as goal

pub returns : goal.returns
returns c = law
