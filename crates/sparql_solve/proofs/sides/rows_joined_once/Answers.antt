use Rattle.std.proofs.Common.{[], List, ap, refl, sym, ◌∙◌}
use Rattle.std.specs.List.{flat_map, list_all}
use Rattle.std.proofs.lemmas.Result.{IfOk-weaker}
use Rattle.rdf_terms.specs.Quad.{QuadParts}
use Rattle.sparql_values.specs.Mapping.{empty_mapping}
use Rattle.sparql_algebra.specs.Algebra.{element}
use Rattle.sparql_solve.specs.Matching.{has_held}
use Rattle.sparql_solve.specs.Partners.{asks_end, beside}
use Rattle.sparql_solve.specs.Under.{kept}
use Rattle.sparql_solve.proofs.FollowLemmas.{made_once}
use Rattle.sparql_solve.proofs.PartnerLemmas.{beside_made, quads_held}
use Rattle.sparql_solve.proofs.sides.rows_joined_once.Goals as goal

pub rows_beside_quads-requires-clause-free : goal.rows_beside_quads-requires-clause-free
rows_beside_quads-requires-clause-free g c = c.in-Some-asked_end.ensures.free

pub rows_beside_quads-requires-clause-asks : goal.rows_beside_quads-requires-clause-asks
rows_beside_quads-requires-clause-asks g c =
    ap (list_all (asks_end c.in-Some-asked_end.is_subject c.in-Some.places.now)) (sym c.deref.ensures.value) ∙ c.in-Some-asked_end.ensures.asked

pub rows_beside_quads-requires-clause-found : goal.rows_beside_quads-requires-clause-found
rows_beside_quads-requires-clause-found g c =
    ap (list_all (has_held c.in-Some.places.now [])) c.deref-in-Some-asked_end.ensures.value
    ∙ quads_held c.args.evaluation.now.scope.variables.now (g.S.Source.contents c.args.evaluation.now.source.now) c.args.look_up.now c.in-Some.places.now
    c.args.quads.items c.requires.found c.in-Some.ensures.alone c.in-Some.ensures.shown

pub returns-in-Some-asked_end : goal.returns-in-Some-asked_end
returns-in-Some-asked_end g c =
    let vs = c.args.evaluation.now.scope.variables.now in
    let l = c.args.look_up.now in
    let p = c.in-Some.places.now in
    let k = element c.args.member.now in
    IfOk-weaker c.rows_beside_quads.result _ _
    (λ out e. beside_made vs (g.S.Source.contents c.args.evaluation.now.source.now) l p c.args.quads.items c.requires.found c.in-Some.ensures.alone
    c.in-Some.ensures.shown c.args._graph.now c.args.under.now k c.requires.counts c.in-Some-asked_end.ensures.under c.args.rows.items out.items
    (e ∙ ap (λ (qs : List QuadParts). flat_map (λ x. kept vs k x (beside vs l p qs k x)) c.args.rows.items) c.deref-in-Some-asked_end.ensures.value))
    c.rows_beside_quads.ensures

pub returns : goal.returns
returns g c =
    IfOk-weaker c.rows_moved_beside.result _ _
    (λ out e. made_once c.args.evaluation.now.scope.variables.now (g.S.Source.contents c.args.evaluation.now.source.now) c.args._graph.now c.args.under.now (element c.args.member.now)
    c.args.look_up.now c.args.rows.items (empty_mapping c.args.evaluation.now.scope.variables.now) c.in_ok-all.all.items c.deref-2.result.now out.items refl c.requires.gives
    c.in_ok-all.ensures c.deref-2.ensures.value e)
    c.rows_moved_beside.ensures
