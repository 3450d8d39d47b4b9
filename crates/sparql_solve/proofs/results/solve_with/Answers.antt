use Rattle.std.proofs.Common.{refl, ◌∙◌}
use Rattle.sparql_solve.proofs.ResultLemmas.{solved}
use Rattle.sparql_solve.proofs.results.solve_with.Goals as goal

pub from_rising-variables-requires : goal.from_rising-variables-requires
from_rising-variables-requires g c = rw c.in_ok-listed.ensures (c.one_list_of_visible_variables.ensures.sorted c.args.pattern.now).rises

pub returns : goal.returns
returns g c =
    solved c.args.pattern.now c.args.graph.now (g.S.Source.contents c.args.source.now) c.from_rising-variables.result c.from_rising-variables.result
    c.in_ok-rows.rows.items (c.from_rising-variables.ensures ∙ c.in_ok-listed.ensures) refl (c.has_minus.ensures c.if-has_minus.false) c.in_ok-rows.ensures
