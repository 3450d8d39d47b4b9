use Rattle.std.proofs.lemmas.Result.{IfOk-weaker}
use Rattle.sparql_solve.proofs.AskGroupLemmas.{members_say}
use Rattle.sparql_solve.proofs.asking.some_in_members.Goals as goal

pub returns : goal.returns
returns g c =
    IfOk-weaker c.some_after.result _ _
    (λ answer h. members_say c.args.evaluation.now.scope.variables.now (g.S.Source.contents c.args.evaluation.now.source.now) c.args.graph.now c.args.under.now c.args.pattern.now
    c.as_slice-2.result.now c.as_slice.result.now c.in_ok-rows.rows.items answer c.as_slice-2.ensures c.as_slice.ensures
    c.in_ok-rows.ensures h)
    c.some_after.ensures
