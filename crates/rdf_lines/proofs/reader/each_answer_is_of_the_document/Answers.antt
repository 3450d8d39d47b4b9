use Rattle.rdf_lines.proofs.CallLemmas.{starts, goes_on, ends, stops}
use Rattle.rdf_lines.proofs.reader.each_answer_is_of_the_document.Goals as goal

pub returns : goal.returns
returns c = record { starts = starts; goes_on = goes_on; ends = ends; stops = stops }
