use Rattle.rdf_keeper.proofs.ScriptLemmas.EarlyRuns.{early_runs_agree}
use Rattle.rdf_keeper.proofs.law.early_runs_agree.Goals as goal

pub returns : goal.returns
returns c = early_runs_agree c.one_reply.ensures.commands c.one_reply.ensures.queries
