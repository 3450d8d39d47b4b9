use Rattle.rdf_tokens.proofs.ValuePnames.{pname_iri}
use Rattle.rdf_tokens.proofs.value.pnames_are_iris.Goals as goal

pub returns : goal.returns
returns c = pname_iri
