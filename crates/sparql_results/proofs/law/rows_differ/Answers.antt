use Rattle.sparql_results.proofs.RowLemmas.{rows_differ}
use Rattle.sparql_results.proofs.law.rows_differ.Goals as goal

pub returns : goal.returns
returns c = rows_differ
