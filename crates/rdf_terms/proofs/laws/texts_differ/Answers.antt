use Rattle.rdf_terms.proofs.TextLemmas.{texts_differ}
use Rattle.rdf_terms.proofs.laws.texts_differ.Goals as goal

pub returns : goal.returns
returns c = texts_differ
