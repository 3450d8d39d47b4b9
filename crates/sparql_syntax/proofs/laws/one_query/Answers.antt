use Rattle.sparql_syntax.proofs.QueryCases.{some_meaning, one_query, never_both, one_fault}
use Rattle.sparql_syntax.proofs.laws.one_query.Goals as goal

pub returns-clause-there : goal.returns-clause-there
returns-clause-there c = some_meaning

pub returns-clause-query : goal.returns-clause-query
returns-clause-query c = one_query

pub returns-clause-never_both : goal.returns-clause-never_both
returns-clause-never_both c = never_both

pub returns-clause-fault : goal.returns-clause-fault
returns-clause-fault c = one_fault
