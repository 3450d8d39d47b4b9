use Rattle.rdf_terms.proofs.UnescapeLemmas.{writes_once}
use Rattle.rdf_terms.proofs.escape.one_value.Goals as goal

pub returns : goal.returns
returns c = writes_once
