use Rattle.std.proofs.Common.{refl, sym, ◌∙◌}
use Rattle.sparql_solve.proofs.ResultLemmas.{names_alike, solved_alike, solved_shown}
use Rattle.sparql_solve.proofs.results.solve_minus.Goals as goal

pub from_rising-all-requires : goal.from_rising-all-requires
from_rising-all-requires g c = rw c.in_ok-listed.ensures (c.one_list_of_visible_variables.ensures.named c.args.pattern.now).rises

pub returns-then-eq : goal.returns-then-eq
returns-then-eq g c =
    solved_alike c.args.pattern.now c.args.graph.now (g.S.Source.contents c.args.source.now) c.args.variables c.from_rising-all.result
    c.from_rising-all.result c.args.variables c.in_ok-found.found.items c.requires (c.from_rising-all.ensures ∙ c.in_ok-listed.ensures) refl refl
    (sym c.as_slice.ensures ∙ names_alike c.as_slice.result.now c.as_slice-2.result.now (sym c.eq.ensures ∙ c.if-eq.true) ∙ c.as_slice-2.ensures)
    c.in_ok-found.ensures

pub returns : goal.returns
returns g c =
    solved_shown c.args.pattern.now c.args.graph.now (g.S.Source.contents c.args.source.now) c.args.variables c.from_rising-all.result
    c.from_rising-all.result c.args.variables c.in_ok-found.found.items c.deref.result.now c.in_ok-rows.rows.items c.requires
    (c.from_rising-all.ensures ∙ c.in_ok-listed.ensures) refl refl c.in_ok-found.ensures c.deref.ensures.value c.in_ok-rows.ensures
