use Rattle.rdf_keeper.proofs.ScriptLemmas.Cuts.{lines_are_the_text, lines_are_ended, one_cut}
use Rattle.rdf_keeper.proofs.law.script_lines_are_the_text.Goals as goal

pub returns-clause-text : goal.returns-clause-text
returns-clause-text c = lines_are_the_text

pub returns-clause-ended : goal.returns-clause-ended
returns-clause-ended c = lines_are_ended

pub returns-clause-one : goal.returns-clause-one
returns-clause-one c = one_cut
