use Rattle.sparql_algebra.proofs.ResultLemmas.{some_solutions, solutions_agree}
use Rattle.sparql_algebra.proofs.VariableLemmas.{variables_in_order, variables_are_all}
use Rattle.sparql_algebra.proofs.laws.solutions_agree.Goals as goal

pub returns-clause-some : goal.returns-clause-some
returns-clause-some c = some_solutions

pub returns-clause-agree : goal.returns-clause-agree
returns-clause-agree c = solutions_agree

pub returns-clause-order : goal.returns-clause-order
returns-clause-order c = variables_in_order

pub returns-clause-all : goal.returns-clause-all
returns-clause-all c = variables_are_all
