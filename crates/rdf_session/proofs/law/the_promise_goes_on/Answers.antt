use Rattle.rdf_session.proofs.OnwardLemmas.{promise_goes_on, promised_onward, reached_have_history, restored_are_promised}
use Rattle.rdf_session.proofs.law.the_promise_goes_on.Goals as goal

pub returns-clause-onward : goal.returns-clause-onward
returns-clause-onward c = promised_onward c.readers_keep_laws.ensures

pub returns-clause-reached : goal.returns-clause-reached
returns-clause-reached c = reached_have_history

pub returns-clause-further : goal.returns-clause-further
returns-clause-further c = promise_goes_on c.readers_keep_laws.ensures

pub returns-clause-restored : goal.returns-clause-restored
returns-clause-restored c = restored_are_promised c.readers_keep_laws.ensures
