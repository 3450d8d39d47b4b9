use Rattle.rdf_keeper.proofs.ScriptLemmas.Saved.{restored_shows_its_text, scripts_go_on_alike, shown_comes_back}
use Rattle.rdf_keeper.proofs.law.a_shown_state_comes_back.Goals as goal

pub returns-clause-back : goal.returns-clause-back
returns-clause-back c = shown_comes_back c.a_saved_state_comes_back.ensures.back

pub returns-clause-text : goal.returns-clause-text
returns-clause-text c = restored_shows_its_text c.a_saved_state_comes_back.ensures.text

pub returns-clause-alike : goal.returns-clause-alike
returns-clause-alike c = scripts_go_on_alike c.a_saved_state_comes_back.ensures.committed
