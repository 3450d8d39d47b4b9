use Rattle.sparql_algebra.proofs.ResultLemmas.{some_selection, one_selection}
use Rattle.sparql_algebra.proofs.laws.one_selection.Goals as goal

pub returns-clause-some : goal.returns-clause-some
returns-clause-some c = some_selection

pub returns-clause-one : goal.returns-clause-one
returns-clause-one c = one_selection
