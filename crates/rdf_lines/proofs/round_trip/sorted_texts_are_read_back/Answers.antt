use Rattle.rdf_lines.proofs.RenamedLemmas.{sorted_texts_are_read_back}
use Rattle.rdf_lines.proofs.round_trip.sorted_texts_are_read_back.Goals as goal

pub returns : goal.returns
returns c = sorted_texts_are_read_back
