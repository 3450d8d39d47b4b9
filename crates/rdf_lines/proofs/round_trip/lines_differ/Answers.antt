use Rattle.rdf_lines.proofs.RoundTripLemmas.{lines_differ}
use Rattle.rdf_lines.proofs.round_trip.lines_differ.Goals as goal

pub returns : goal.returns
returns c = lines_differ
