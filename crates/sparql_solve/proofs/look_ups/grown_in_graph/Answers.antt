use Rattle.std.proofs.Common.{refl}
use Rattle.std.proofs.lemmas.Result.{IfOk-weaker}
use Rattle.sparql_solve.proofs.LengthLemmas.{lone_gives}
use Rattle.sparql_solve.proofs.LookUpLemmas.{in_graph_gives}
use Rattle.sparql_solve.proofs.look_ups.grown_in_graph.Goals as goal

pub returns : goal.returns
returns g c =
    IfOk-weaker c.cut_rows.result _ _
    (λ out e. in_graph_gives (g.S.Source.contents c.args.source.now) c.args.graph.now c.args.look_up.now c.args.row c.in_ok-widen.field-0
    c.args.row c.len-columns.result c.as_slice.result.now c.new-start.result.items c.push.new.self.items c.in_ok-rows.rows.items out.items
    c.as_slice.ensures c.in_ok-push.ensures.items c.new-start.ensures.items c.in_ok-widen.ensures c.in_ok-rows.ensures e c.len-columns.ensures refl)
    c.cut_rows.ensures

pub returns-in-Some : goal.returns-in-Some
returns-in-Some g c =
    IfOk-weaker c.moved_of_one.result _ _
    (λ out h. lone_gives (g.S.Source.contents c.args.source.now) c.args.graph.now c.args.look_up.now c.args.row c.in-Some.places.now out.items
    c.in-Some.ensures.alone c.in-Some.ensures.shown h)
    c.moved_of_one.ensures
