use Rattle.rdf_lines.proofs.ApartLemmas.{read_again}
use Rattle.rdf_lines.proofs.round_trip.read_documents_are_read_again.Goals as goal

pub returns : goal.returns
returns c = read_again
