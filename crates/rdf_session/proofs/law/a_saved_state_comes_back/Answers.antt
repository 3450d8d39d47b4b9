use Rattle.rdf_session.proofs.SavedLemmas.{commands_go_on_alike, restored_is_as_committed, restored_is_saved_alike, saved_comes_back}
use Rattle.rdf_session.proofs.law.a_saved_state_comes_back.Goals as goal

pub returns-clause-back : goal.returns-clause-back
returns-clause-back c = saved_comes_back c.state_texts_differ.ensures

pub returns-clause-text : goal.returns-clause-text
returns-clause-text c = restored_is_saved_alike c.state_text_is_one.ensures

pub returns-clause-committed : goal.returns-clause-committed
returns-clause-committed c = restored_is_as_committed c.state_texts_differ.ensures

pub returns-clause-alike : goal.returns-clause-alike
returns-clause-alike c = commands_go_on_alike c.state_texts_differ.ensures
