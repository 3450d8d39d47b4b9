use Rattle.std.proofs.Common.{refl}
use Rattle.rdf_keeper.proofs.ScriptLemmas.CommandLaws.{changes_tell, lines_tell}
use Rattle.rdf_keeper.proofs.law.commands_are_as_listed.Goals as goal

pub returns-clause-words : goal.returns-clause-words
returns-clause-words c = refl

pub returns-clause-names : goal.returns-clause-names
returns-clause-names c = refl

pub returns-clause-formats : goal.returns-clause-formats
returns-clause-formats c = refl

pub returns-clause-bodies : goal.returns-clause-bodies
returns-clause-bodies c = refl

pub returns-clause-texts : goal.returns-clause-texts
returns-clause-texts c = refl

pub returns-clause-ends : goal.returns-clause-ends
returns-clause-ends c = refl

pub returns-clause-open : goal.returns-clause-open
returns-clause-open c = (refl, refl)

pub returns-clause-comments : goal.returns-clause-comments
returns-clause-comments c = refl

pub returns-clause-others : goal.returns-clause-others
returns-clause-others c = refl

pub returns-clause-marks : goal.returns-clause-marks
returns-clause-marks c = (refl, refl, refl, refl, refl, refl)

pub returns-clause-lines : goal.returns-clause-lines
returns-clause-lines c = lines_tell

pub returns-clause-changes : goal.returns-clause-changes
returns-clause-changes c = changes_tell

pub returns-clause-statuses : goal.returns-clause-statuses
returns-clause-statuses c = (refl, refl, refl, refl, refl)
