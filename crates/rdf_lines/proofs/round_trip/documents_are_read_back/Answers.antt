use Rattle.rdf_lines.proofs.RenamedLemmas.{documents_are_read_back}
use Rattle.rdf_lines.proofs.round_trip.documents_are_read_back.Goals as goal

pub returns : goal.returns
returns c = documents_are_read_back
