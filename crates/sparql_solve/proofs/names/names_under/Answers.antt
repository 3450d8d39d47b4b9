use Rattle.std.proofs.Common.{◌∙◌}
use Rattle.std.proofs.lemmas.Result.{IfOk-weaker}
use Rattle.sparql_solve.proofs.FollowLemmas.{names_follow}
use Rattle.sparql_solve.proofs.names.names_under.Goals as goal

pub returns : goal.returns
returns g c =
    IfOk-weaker c.tried_names.result _ _
    (λ names h. names_follow c.args.evaluation.now.scope.variables.now (g.S.Source.contents c.args.evaluation.now.source.now) c.args.under.now c.args.variable.now c.column.result
    c.in_ok-value.value names.items c.column.ensures (c.in_ok-value.ensures ∙ c.value_in.ensures) h)
    c.tried_names.ensures
