use Rattle.std.proofs.Common.{sym}
use Rattle.std.proofs.lemmas.Result.{IfOk-weaker}
use Rattle.sparql_solve.proofs.SideLemmas.{some_weaker, optional_look_up}
use Rattle.sparql_solve.proofs.members.look_up_of.Goals as goal

pub returns-in-Some : goal.returns-in-Some
returns-in-Some g c =
    IfOk-weaker c.look_up_of_joined.result _ _
    (λ found h. some_weaker found _ _
    (λ l r. optional_look_up c.args.evaluation.now.scope.variables.now (g.S.Source.contents c.args.evaluation.now.source.now) c.args.graph.now c.args.member.now c.in-Optional.pattern
    c.as_slice.result.now c.in-Some.inner.now l c.in-Optional.is c.as_slice.ensures (sym c.in-Some.ensures) r) h)
    c.look_up_of_joined.ensures
