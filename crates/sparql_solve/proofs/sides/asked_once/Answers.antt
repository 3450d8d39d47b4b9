use Rattle.std.proofs.Common.{ap, ◌∙◌}
use Rattle.std.proofs.lemmas.Result.{IfOk-weaker}
use Rattle.sparql_algebra.specs.Algebra.{element}
use Rattle.sparql_solve.specs.Under.{asked}
use Rattle.sparql_solve.proofs.sides.asked_once.Goals as goal

pub returns : goal.returns
returns c =
    IfOk-weaker c.asked.result _ _
    (λ out e. e ∙ ap (asked (element c.args.member.now) c.args.under.now) c.in_ok-nothing.ensures)
    c.asked.ensures
