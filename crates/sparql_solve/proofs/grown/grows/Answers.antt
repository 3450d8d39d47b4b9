use Rattle.std.proofs.Common.{◌≡◌, cond, Some, None, ap, ◌∙◌}
use Rattle.rdf_dataset.specs.State.{fits_place}
use Rattle.sparql_algebra.proofs.CallerLemmas.{and_left, and_right}
use Rattle.sparql_solve.specs.Matching.{held}
use Rattle.sparql_solve.proofs.SpotLemmas.{put_object, put_predicate, put_subject}
use Rattle.sparql_solve.proofs.grown.grows.Goals as goal

pub put-requires : goal.put-requires
put-requires c =
    let m = c.args.row.now in
    let p = c.args.places.now in
    let q = c.args.quad in
    let is : c.into_parts-graph.result.2 ≡ q.predicate = λ i. (c.into_parts-graph.ensures.value i).2 in
    put_predicate m p c.args.spots c.requires.told c.into_parts-graph.result.2
    (ap (fits_place (held m p.predicate)) is
    ∙ and_left (fits_place (held m p.predicate) q.predicate) _ (and_right (fits_place (held m p.subject) q.subject) _ c.requires.held))

pub put-requires-2 : goal.put-requires-2
put-requires-2 c =
    let m = c.args.row.now in
    let p = c.args.places.now in
    let q = c.args.quad in
    let is : c.into_parts-graph.result.1 ≡ q.subject = λ i. (c.into_parts-graph.ensures.value i).1 in
    put_subject m p c.args.spots c.requires.told c.into_parts-graph.result.1 c.into_parts-graph.result.2 c.put.new.row
    (ap (fits_place (held m p.subject)) is ∙ and_left (fits_place (held m p.subject) q.subject) _ c.requires.held)
    (c.in_ok-put.ensures ∙ ap (λ b. cond b (Some c.put.new.row) None) c.if-not-branch.false)

pub put-requires-3 : goal.put-requires-3
put-requires-3 c =
    let m = c.args.row.now in
    let p = c.args.places.now in
    let q = c.args.quad in
    let is : c.into_parts-graph.result.3 ≡ q.object = λ i. (c.into_parts-graph.ensures.value i).3 in
    put_object m p c.args.spots c.requires.told c.into_parts-graph.result.3 c.into_parts-graph.result.2 c.into_parts-graph.result.1 c.put.new.row c.put-2.new.row
    (ap (fits_place (held m p.object)) is
    ∙ and_right (fits_place (held m p.predicate) q.predicate) _ (and_right (fits_place (held m p.subject) q.subject) _ c.requires.held))
    (c.in_ok-put.ensures ∙ ap (λ b. cond b (Some c.put.new.row) None) c.if-not-branch.false)
    (c.in_ok-put-2.ensures ∙ ap (λ b. cond b (Some c.put-2.new.row) None) c.if-not-branch-2.false)
