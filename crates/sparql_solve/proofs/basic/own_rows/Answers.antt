use Rattle.std.proofs.Common.{map, ap, ◌∙◌}
use Rattle.std.specs.List.{sum_by}
use Rattle.std.proofs.lemmas.Result.{IfOk-weaker}
use Rattle.sparql_algebra.proofs.CallerLemmas.{SameBag-map}
use Rattle.sparql_values.specs.Mapping.{Mapping}
use Rattle.sparql_solve.specs.Sides.{found}
use Rattle.sparql_solve.specs.Under.{masked}
use Rattle.sparql_solve.proofs.basic.own_rows.Goals as goal

pub returns : goal.returns
returns g c =
    IfOk-weaker c.masked_rows.result _ _
    (λ out e d l f. ap (sum_by f) (e ∙ ap (map (masked c.args.own.now)) c.deref.ensures.value)
    ∙ SameBag-map (masked c.args.own.now) c.in_ok-rows.rows.items (found c.args.evaluation.now.scope.variables.now d c.args.look_up.now c.row.result.now)
    (c.in_ok-rows.ensures d l) f
    ∙ ap (λ (m : Mapping). sum_by f (map (masked c.args.own.now) (found c.args.evaluation.now.scope.variables.now d c.args.look_up.now m))) c.row.ensures)
    c.masked_rows.ensures
