use Rattle.rdf_keeper.proofs.ScriptLemmas.Small.{answers_are_replies, changes_are_shown, query_script_asks, replies_are_answers, update_script_acts}
use Rattle.rdf_keeper.proofs.law.a_word_is_a_session_in_small.Goals as goal

pub returns-clause-asks : goal.returns-clause-asks
returns-clause-asks c = query_script_asks

pub returns-clause-acts : goal.returns-clause-acts
returns-clause-acts c = update_script_acts

pub returns-clause-replies : goal.returns-clause-replies
returns-clause-replies c = replies_are_answers

pub returns-clause-answers : goal.returns-clause-answers
returns-clause-answers c = answers_are_replies

pub returns-clause-shown : goal.returns-clause-shown
returns-clause-shown c = changes_are_shown
