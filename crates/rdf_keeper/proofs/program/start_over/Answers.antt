use Rattle.std.proofs.Common.{◌∙◌, sym}
use Rattle.rdf_keeper.proofs.ProgramLemmas.{ending_told, ends_well, stays_quiet}
use Rattle.rdf_keeper.proofs.program.start_over.Goals as goal

pub returns-clause-does : goal.returns-clause-does
returns-clause-does g c = (
  c.answer_words-outcome.result,
  c.report.ensures.status,
  c.answer_words-outcome.ensures.does,
  λ unasked. ending_told (g.E.Write.contents c.args.errors.now) (g.E.Write.contents c.answer_words-outcome.new.errors) (g.E.Write.contents c.report.new.errors) c.answer_words-outcome.result (λ fit. c.answer_words-outcome.ensures.quiet fit unasked) c.report.ensures.line,
)

pub returns-clause-quiet : goal.returns-clause-quiet
returns-clause-quiet g c zero unasked =
    let here = sym c.report.ensures.status ∙ zero in
    stays_quiet (g.E.Write.contents c.args.errors.now) (g.E.Write.contents c.answer_words-outcome.new.errors) (g.E.Write.contents c.report.new.errors) c.answer_words-outcome.result here (c.answer_words-outcome.ensures.quiet (ends_well _ here) unasked) c.report.ensures.line
