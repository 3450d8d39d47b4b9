use Rattle.rdf_session.specs.History.{nothing}
use Rattle.rdf_session.specs.Session.{fresh, with_depth}
use Rattle.rdf_session.proofs.StandingLemmas.{run_agrees, fresh_agrees, standing}
use Rattle.rdf_session.proofs.CommitLemmas.{commit_keeps_the_state, base_is_the_first, base_is_the_last_committed}
use Rattle.rdf_session.proofs.law.standing_requests.Goals as goal

pub returns-clause-each : goal.returns-clause-each
returns-clause-each c depth base_iri state events session run =
    (run_agrees depth base_iri (with_depth depth (fresh base_iri state)) session events nothing (fresh_agrees depth base_iri state) run).follows

pub returns-clause-now : goal.returns-clause-now
returns-clause-now c depth base_iri state events session run =
    let a = run_agrees depth base_iri (with_depth depth (fresh base_iri state)) session events nothing (fresh_agrees depth base_iri state) run in
    standing base_iri session.base _ session.states.items session.states.cursor session.base a.follows a.within

pub returns-clause-first_base : goal.returns-clause-first_base
returns-clause-first_base c = base_is_the_first

pub returns-clause-last_base : goal.returns-clause-last_base
returns-clause-last_base c = base_is_the_last_committed

pub returns-clause-committed : goal.returns-clause-committed
returns-clause-committed c = commit_keeps_the_state
