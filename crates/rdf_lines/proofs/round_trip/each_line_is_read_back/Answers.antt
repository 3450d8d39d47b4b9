use Rattle.rdf_lines.proofs.RoundTripLemmas.{each_line_is_read_back}
use Rattle.rdf_lines.proofs.round_trip.each_line_is_read_back.Goals as goal

pub returns : goal.returns
returns c = each_line_is_read_back
