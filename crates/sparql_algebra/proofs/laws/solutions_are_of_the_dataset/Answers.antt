use Rattle.sparql_algebra.proofs.BoundLemmas.{solutions_of_state, solutions_of_terms, solutions_below}
use Rattle.sparql_algebra.proofs.laws.solutions_are_of_the_dataset.Goals as goal

pub returns-clause-of_state : goal.returns-clause-of_state
returns-clause-of_state c = solutions_of_state

pub returns-clause-terms : goal.returns-clause-terms
returns-clause-terms c = solutions_of_terms

pub returns-clause-below : goal.returns-clause-below
returns-clause-below c = solutions_below
