use Rattle.rdf_lines.proofs.FedLemmas.{fed_begins}
use Rattle.rdf_lines.proofs.fed.what_is_fed_comes_first.Goals as goal

pub returns : goal.returns
returns c = fed_begins
