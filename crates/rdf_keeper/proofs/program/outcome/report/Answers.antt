use Rattle.std.proofs.Common.{◌∙◌}
use Rattle.rdf_keeper.proofs.ProgramLemmas.{as_far}
use Rattle.rdf_keeper.proofs.program.outcome.report.Goals as goal

pub returns-clause-line : goal.returns-clause-line
returns-clause-line g c = as_far _ _ _ _ c.write_whole.result (c.as_slice.ensures.value ∙ c.error_line-line.ensures) c.write_whole.ensures
