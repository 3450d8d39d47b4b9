use Rattle.std.proofs.Common.{◌∙◌}
use Rattle.std.proofs.lemmas.Result.{IfOk-weaker}
use Rattle.sparql_solve.proofs.SideLemmas.{each_gives}
use Rattle.sparql_solve.proofs.look_ups.grown_rows.Goals as goal

pub returns-in_ok-names-in-Each : goal.returns-in_ok-names-in-Each
returns-in_ok-names-in-Each g c =
    IfOk-weaker c.grown_under_names.result _ _
    (λ out h e. each_gives c.args.evaluation.now.scope.variables.now (g.S.Source.contents c.args.evaluation.now.source.now) c.args.look_up.now c.in-Each.variable c.args.row
    c.column.result c.in_ok-value-in-Each.value c.in_ok-names-in-Each.names.items c.deref.result.now out.items c.in-Each.is c.column.ensures (c.in_ok-value-in-Each.ensures ∙ c.value_in.ensures)
    c.in_ok-names-in-Each.ensures c.deref.ensures.value (h e))
    c.grown_under_names.ensures
