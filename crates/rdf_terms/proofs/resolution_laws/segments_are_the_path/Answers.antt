use Rattle.rdf_terms.proofs.DotLemmas.{segments_are_the_path}
use Rattle.rdf_terms.proofs.resolution_laws.segments_are_the_path.Goals as goal

pub returns : goal.returns
returns c = segments_are_the_path
