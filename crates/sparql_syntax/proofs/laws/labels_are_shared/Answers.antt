use Rattle.sparql_syntax.proofs.SharedLabels.{labels_are_shared}
use Rattle.sparql_syntax.proofs.laws.labels_are_shared.Goals as goal

pub returns : goal.returns
returns c = labels_are_shared
