use Rattle.std.proofs.Common.{ap, ◌∙◌}
use Rattle.std.proofs.lemmas.Result.{IfOk-weaker}
use Rattle.sparql_algebra.specs.Results.{is_some_solution}
use Rattle.sparql_solve.specs.Sides.{found}
use Rattle.sparql_solve.proofs.FewLemmas.{some_as}
use Rattle.sparql_solve.proofs.LengthLemmas.{lone_found}
use Rattle.sparql_solve.proofs.look_ups.some_found.Goals as goal

pub returns-in-Some : goal.returns-in-Some
returns-in-Some g c =
    IfOk-weaker c.some_of_one.result _ _
    (λ out h d l. h d l ∙ ap is_some_solution (lone_found c.args.evaluation.now.scope.variables.now d c.in-One.graph c.args.look_up.now c.args.row.now c.in-Some.places.now
    c.in-One.is c.in-Some.ensures.alone c.in-Some.ensures.shown))
    c.some_of_one.ensures

pub returns : goal.returns
returns g c =
    IfOk-weaker c.found_rows.result _ _
    (λ out h. some_as (g.S.Source.contents c.args.evaluation.now.source.now) (λ d. found c.args.evaluation.now.scope.variables.now d c.args.look_up.now c.args.row.now) out.items h)
    c.found_rows.ensures
