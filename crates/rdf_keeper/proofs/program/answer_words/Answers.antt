use Rattle.rdf_keeper.proofs.program.answer_words.Goals as goal

pub returns-in-Ok-clause-quiet : goal.returns-in-Ok-clause-quiet
returns-in-Ok-clause-quiet g c fit unasked = c.answer_asked-outcome.ensures.quiet unasked
