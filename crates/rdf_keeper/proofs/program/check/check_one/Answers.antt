use Rattle.rdf_keeper.proofs.program.check.check_one.Goals as goal

pub returns-clause-written : goal.returns-clause-written
returns-clause-written g c = (
  c.check-answer.result,
  c.tell_answer.ensures.written,
  λ text is. (g.R.Read.remaining c.check-answer.new.reader.reader, c.check-answer.ensures text is),
)
