use Rattle.sparql_syntax.proofs.UpdateCases.{some_meaning}
use Rattle.sparql_syntax.proofs.UpdateLemmas.{one_request, never_both, one_fault}
use Rattle.sparql_syntax.proofs.laws.one_request.Goals as goal

pub returns-clause-there : goal.returns-clause-there
returns-clause-there c = some_meaning

pub returns-clause-request : goal.returns-clause-request
returns-clause-request c = one_request

pub returns-clause-never_both : goal.returns-clause-never_both
returns-clause-never_both c = never_both

pub returns-clause-fault : goal.returns-clause-fault
returns-clause-fault c = one_fault
