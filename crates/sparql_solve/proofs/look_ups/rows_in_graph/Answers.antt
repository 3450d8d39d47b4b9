use Rattle.std.proofs.Common.{ap, ◌∙◌}
use Rattle.std.specs.List.{sum_by}
use Rattle.std.proofs.lemmas.Result.{IfOk-weaker}
use Rattle.sparql_values.specs.Mapping.{Mapping}
use Rattle.sparql_solve.specs.Sides.{found_in}
use Rattle.sparql_solve.proofs.LengthLemmas.{lone_gives}
use Rattle.sparql_solve.proofs.look_ups.rows_in_graph.Goals as goal

pub returns : goal.returns
returns g c =
    IfOk-weaker c.grown_in_graph.result _ _
    (λ out h d k f. h d k f ∙ ap (λ (m : Mapping). sum_by f (found_in d c.args.look_up.now c.args.graph.now m)) c.in_ok-copy.ensures)
    c.grown_in_graph.ensures

pub returns-in-Some : goal.returns-in-Some
returns-in-Some g c =
    IfOk-weaker c.rows_of_one.result _ _
    (λ out h. lone_gives (g.S.Source.contents c.args.source.now) c.args.graph.now c.args.look_up.now c.args.row.now c.in-Some.places.now out.items
    c.in-Some.ensures.alone c.in-Some.ensures.shown h)
    c.rows_of_one.ensures
