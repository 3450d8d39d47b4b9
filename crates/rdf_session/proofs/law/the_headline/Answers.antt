use Rattle.rdf_session.proofs.ComesAboutLemmas.{each_command_runs, may_be_accepted}
use Rattle.rdf_session.proofs.HeadlineLemmas.{headline}
use Rattle.rdf_session.proofs.law.the_headline.Goals as goal

pub returns-clause-promise : goal.returns-clause-promise
returns-clause-promise c = headline c.readers_keep_laws.ensures

pub returns-clause-accepted : goal.returns-clause-accepted
returns-clause-accepted c = may_be_accepted

pub returns-clause-each_runs : goal.returns-clause-each_runs
returns-clause-each_runs c = each_command_runs
