use Rattle.rdf_streams.proofs.ConversionLemmas.Converts.{Appends-none}
use Rattle.rdf_keeper.proofs.program.answer_asked.Goals as goal

pub returns-else-has_progress-clause-quiet : goal.returns-else-has_progress-clause-quiet
returns-else-has_progress-clause-quiet g c unasked = Appends-none _
