use Rattle.rdf_lines.proofs.RenamedLemmas.{numbered_sorted_texts_are_read_back}
use Rattle.rdf_lines.proofs.round_trip.numbered_sorted_texts_are_read_back.Goals as goal

pub returns : goal.returns
returns c = numbered_sorted_texts_are_read_back
