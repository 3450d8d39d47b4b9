use Rattle.std.proofs.Common.{refl, ◌∙◌}
use Rattle.std.proofs.lemmas.Result.{IfOk-weaker}
use Rattle.sparql_solve.proofs.ResultLemmas.{answered}
use Rattle.sparql_solve.proofs.results.ask_with.Goals as goal

pub from_rising-names-requires : goal.from_rising-names-requires
from_rising-names-requires g c = rw c.in_ok-listed.ensures (c.one_list_of_visible_variables.ensures.named c.args.pattern.now).rises

pub returns : goal.returns
returns g c =
    IfOk-weaker c.has_solution.result _ _
    (λ answer h. answered c.args.pattern.now (g.S.Source.contents c.args.source.now) c.from_rising-names.result c.from_rising-names.result answer
    (c.from_rising-names.ensures ∙ c.in_ok-listed.ensures) refl h)
    c.has_solution.ensures
