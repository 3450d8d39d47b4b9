use Rattle.std.proofs.Common.{cond, Some, None, refl, ap, ◌∙◌}
use Rattle.rdf_dataset.specs.State.{fits_place}
use Rattle.sparql_algebra.proofs.CallerLemmas.{and_left, and_right}
use Rattle.sparql_solve.specs.Matching.{held}
use Rattle.sparql_solve.proofs.FitLemmas.{ready_first, ready_next, ready_taken}
use Rattle.sparql_solve.proofs.matching.matches_row.Goals as goal

pub take-requires : goal.take-requires
take-requires c known =
    let m = c.args.row.now in
    let p = c.args.places.now in
    ready_taken m m p.predicate c.predicate.result.now c.has-has_predicate.result c.has-has_predicate.ensures known
    (ready_first m m p.predicate c.predicate.result.now refl
    (ap (fits_place (held m p.predicate)) c.predicate.ensures.value
    ∙ and_left (fits_place (held m p.predicate) c.args.quad.now.predicate) _ (and_right (fits_place (held m p.subject) c.args.quad.now.subject) _ c.requires)))

pub take-requires-2 : goal.take-requires-2
take-requires-2 c known =
    let m = c.args.row.now in
    let p = c.args.places.now in
    ready_taken m c.take.new.self p.subject c.subject.result.now c.has-has_subject.result c.has-has_subject.ensures known
    (ready_next m m c.take.new.self p.subject p.predicate c.subject.result.now c.predicate.result.now
    (ready_first m m p.subject c.subject.result.now refl
    (ap (fits_place (held m p.subject)) c.subject.ensures.value ∙ and_left (fits_place (held m p.subject) c.args.quad.now.subject) _ c.requires))
    (c.in_ok-take.ensures ∙ ap (λ b. cond b (Some c.take.new.self) None) c.if-not-branch.false))

pub take-requires-3 : goal.take-requires-3
take-requires-3 c known =
    let m = c.args.row.now in
    let p = c.args.places.now in
    ready_taken m c.take-2.new.self p.object c.object.result.now c.has-has_object.result c.has-has_object.ensures known
    (ready_next m c.take.new.self c.take-2.new.self p.object p.subject c.object.result.now c.subject.result.now
    (ready_next m m c.take.new.self p.object p.predicate c.object.result.now c.predicate.result.now
    (ready_first m m p.object c.object.result.now refl
    (ap (fits_place (held m p.object)) c.object.ensures.value
    ∙ and_right (fits_place (held m p.predicate) c.args.quad.now.predicate) _ (and_right (fits_place (held m p.subject) c.args.quad.now.subject) _ c.requires)))
    (c.in_ok-take.ensures ∙ ap (λ b. cond b (Some c.take.new.self) None) c.if-not-branch.false))
    (c.in_ok-take-2.ensures ∙ ap (λ b. cond b (Some c.take-2.new.self) None) c.if-not-branch-2.false))
