use Rattle.std.proofs.Common.{subst}
use Rattle.std.specs.Prelude.{Ok, Err}
use Rattle.rdf_session.specs.Documents.{of_lines}
use Rattle.rdf_session.specs.FedStart.{BeginsFed, Start}
use Rattle.rdf_session.proofs.BeginningLemmas.{session_begins, session_refused}
use Rattle.rdf_session.proofs.fed_start.FedStart.end.Goals as goal

pub returns-in-Ok : goal.returns-in-Ok
returns-in-Ok c =
    let s = c.self.inside in
    subst (λ (start : Start). BeginsFed start (Ok c.over.result)) c.self.view_is
    (λ text h. session_begins (of_lines s.lines.format) s.base_iri text c.in-Ok.dataset c.over.result (c.in-Ok.ensures s.base_iri text h) c.over.ensures)

pub returns-in-Err : goal.returns-in-Err
returns-in-Err c =
    let s = c.self.inside in
    subst (λ (start : Start). BeginsFed start (Err c.in-Err.fault)) c.self.view_is
    (λ text h. session_refused (of_lines s.lines.format) s.base_iri text c.in-Err.fault (c.in-Err.ensures s.base_iri text h))
