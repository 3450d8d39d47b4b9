use Rattle.rdf_session.proofs.RollsBackLemmas.{rollback_gives_back_its_mark, rollback_is_taken}
use Rattle.rdf_session.proofs.law.a_rollback_gives_back_its_mark.Goals as goal

pub returns-clause-state : goal.returns-clause-state
returns-clause-state c = rollback_gives_back_its_mark

pub returns-clause-taken : goal.returns-clause-taken
returns-clause-taken c = rollback_is_taken
