use Rattle.sparql_algebra.proofs.ResultLemmas.{some_solution_list, one_solution_list}
use Rattle.sparql_algebra.proofs.laws.one_solution_list.Goals as goal

pub returns-clause-some : goal.returns-clause-some
returns-clause-some c = some_solution_list

pub returns-clause-one : goal.returns-clause-one
returns-clause-one c = one_solution_list
