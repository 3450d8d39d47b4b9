use Rattle.std.proofs.Common.{sym, ◌∙◌}
use Rattle.sparql_solve.proofs.ShownLemmas.{apart_from}
use Rattle.sparql_solve.proofs.shown.are_apart.Goals as goal

pub loop-first-preserved : goal.loop-first-preserved
loop-first-preserved c = λ h.
    c.loop-first.invariant
    (apart_from c.loop-first.rest.now c.in-Some.first.now c.in-Some.others.now c.in-Some.ensures.cases.0 (sym c.is_among.ensures ∙ c.if-is_among.false) h)
