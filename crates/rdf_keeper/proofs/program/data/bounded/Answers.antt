use Rattle.std.proofs.Common.{◌∙◌, ap, sym}
use Rattle.rdf_session.specs.Session.{with_depth}
use Rattle.rdf_keeper.proofs.ProgramLemmas.{bounded_by_none}
use Rattle.rdf_keeper.proofs.program.data.bounded.Goals as goal

pub returns-in-None : goal.returns-in-None
returns-in-None c = bounded_by_none c.args.keeper c.requires.unbounded ∙ ap (λ d. with_depth d c.args.keeper) (sym c.in-None.is)
