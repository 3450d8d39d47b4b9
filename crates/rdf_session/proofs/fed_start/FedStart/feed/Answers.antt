use Rattle.std.proofs.Common.{subst}
use Rattle.rdf_session.specs.FedStart.{FeedsOn, Start, StopsFed}
use Rattle.rdf_session.proofs.FedLemmas.{feeds_on, stops_fed}
use Rattle.rdf_session.proofs.fed_start.FedStart.feed.Goals as goal

pub returns-in-Ok : goal.returns-in-Ok
returns-in-Ok c =
    let old = c.self.inside in
    let new : Start = record { base_iri = old.base_iri; lines = c.in-Ok.lines; quads = c.take_in.new.quads } in
    subst (λ (s : Start). FeedsOn s c.args.piece.now new) c.self.view_is (feeds_on old.base_iri old.lines c.in-Ok.lines old.quads c.take_in.new.quads c.args.piece.now c.in-Ok.ensures)

pub returns-in-Err : goal.returns-in-Err
returns-in-Err c =
    let old = c.self.inside in
    subst (λ (s : Start). StopsFed s c.args.piece.now c.in-Err.fault) c.self.view_is (stops_fed old.base_iri old.lines old.quads c.args.piece.now c.in-Err.fault c.in-Err.ensures)
