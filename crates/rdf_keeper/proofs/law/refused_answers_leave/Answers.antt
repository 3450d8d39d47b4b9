use Rattle.rdf_keeper.proofs.ScriptLemmas.Refusals.{refused_answers_leave}
use Rattle.rdf_keeper.proofs.law.refused_answers_leave.Goals as goal

pub returns : goal.returns
returns c = refused_answers_leave
