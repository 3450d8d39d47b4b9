use Rattle.rdf_session.proofs.GivesBackLemmas.{runs_are_whole, undo_gives_back, redo_gives_again, rollback_gives_back}
use Rattle.rdf_session.proofs.UndoRedoLemmas.{undo_then_redo, redo_then_undo}
use Rattle.rdf_session.proofs.law.undo_gives_back.Goals as goal

pub returns-clause-whole : goal.returns-clause-whole
returns-clause-whole c = runs_are_whole

pub returns-clause-undo : goal.returns-clause-undo
returns-clause-undo c = undo_gives_back

pub returns-clause-redo : goal.returns-clause-redo
returns-clause-redo c = redo_gives_again

pub returns-clause-rollback : goal.returns-clause-rollback
returns-clause-rollback c = rollback_gives_back

pub returns-clause-undo_redo : goal.returns-clause-undo_redo
returns-clause-undo_redo c = undo_then_redo

pub returns-clause-redo_undo : goal.returns-clause-redo_undo
returns-clause-redo_undo c = redo_then_undo
