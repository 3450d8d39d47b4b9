use Rattle.sparql_results.proofs.CsvLemmas.{csv_tells_strings}
use Rattle.sparql_results.proofs.law.csv_tells_strings.Goals as goal

pub returns : goal.returns
returns c = csv_tells_strings
