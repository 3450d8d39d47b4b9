use Rattle.sparql_expressions.proofs.ExpressionsRead as lemma
use Rattle.sparql_expressions.proofs.laws.one_constraint.Goals as goal

pub returns-clause-read : goal.returns-clause-read
returns-clause-read c = lemma.constraints_are_read

pub returns-clause-one : goal.returns-clause-one
returns-clause-one c = lemma.one_constraint
