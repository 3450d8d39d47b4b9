use Rattle.rdf_lines.proofs.SortLemmas.{one_text}
use Rattle.rdf_lines.proofs.write.sorted_text_is_one.Goals as goal

pub returns : goal.returns
returns c = one_text
