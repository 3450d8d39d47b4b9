use Rattle.std.proofs.lemmas.Result.{IfOk-weaker}
use Rattle.sparql_algebra.specs.Algebra.{element}
use Rattle.sparql_solve.proofs.SharedLemmas.{one_by_one}
use Rattle.sparql_solve.proofs.sides.rows_served.Goals as goal

pub returns : goal.returns
returns c =
    IfOk-weaker c.rows_one_by_one.result _ _
    (λ out e. one_by_one c.args.scope.now.variables.now c.args.under.now (element c.args.member.now) c.args.found.now c.args.rows.now out.items c.is_removed.result
    c.is_removed.ensures c.if-is_removed.false e)
    c.rows_one_by_one.ensures
