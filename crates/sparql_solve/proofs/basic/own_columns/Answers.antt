use Rattle.std.proofs.Common.{◌∙◌}
use Rattle.std.proofs.lemmas.Result.{IfOk-weaker}
use Rattle.sparql_solve.proofs.OwnLemmas.{own_is}
use Rattle.sparql_solve.proofs.basic.own_columns.Goals as goal

pub returns : goal.returns
returns c =
    IfOk-weaker c.of.result _ _
    (λ out h. h ∙ c.in_ok-columns.ensures ∙ own_is c.args.variables.now c.args.look_up.now c.len-len.result c.as_slice.result.now c.len-len.ensures c.as_slice.ensures)
    c.of.ensures
