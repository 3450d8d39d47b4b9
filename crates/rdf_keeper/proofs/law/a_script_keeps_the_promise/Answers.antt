use Rattle.rdf_keeper.proofs.ScriptLemmas.Promised.{answers_are_transitions, scripts_are_promised, undone_in_a_script, redone_in_a_script}
use Rattle.rdf_keeper.proofs.law.a_script_keeps_the_promise.Goals as goal

pub returns-clause-transitions : goal.returns-clause-transitions
returns-clause-transitions c = answers_are_transitions

pub returns-clause-promise : goal.returns-clause-promise
returns-clause-promise c = scripts_are_promised c.the_headline.ensures.promise

pub returns-clause-undone : goal.returns-clause-undone
returns-clause-undone c = undone_in_a_script c.undo_gives_back.ensures.undo

pub returns-clause-redone : goal.returns-clause-redone
returns-clause-redone c = redone_in_a_script c.undo_gives_back.ensures.redo
