use Rattle.std.proofs.Common.{List, map, ap, ◌∙◌}
use Rattle.std.proofs.lemmas.Result.{IfOk-weaker}
use Rattle.sparql_values.specs.Mapping.{Mapping, merge}
use Rattle.sparql_solve.proofs.sides.passed_with.Goals as goal

pub returns : goal.returns
returns c =
    IfOk-weaker c.rows_with.result _ _
    (λ out e. e ∙ ap (λ (xs : List Mapping). map (λ x. merge x c.args.bound.now) xs) (c.deref.ensures.value ∙ c.in_ok-passed.ensures))
    c.rows_with.ensures
