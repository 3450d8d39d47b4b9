use Rattle.sparql_results.proofs.FormatLemmas.{selections_have_parts}
use Rattle.sparql_results.proofs.format.selections_have_parts.Goals as goal

pub returns : goal.returns
returns c = selections_have_parts
