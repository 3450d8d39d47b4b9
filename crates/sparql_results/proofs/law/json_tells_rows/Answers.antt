use Rattle.sparql_results.proofs.JsonLemmas.{json_tells_rows}
use Rattle.sparql_results.proofs.law.json_tells_rows.Goals as goal

pub returns : goal.returns
returns c = json_tells_rows
