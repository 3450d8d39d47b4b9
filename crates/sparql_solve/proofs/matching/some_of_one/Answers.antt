use Rattle.std.proofs.Common.{arith, sym, ◌∙◌}
use Rattle.std.proofs.lemmas.Result.{IfOk-weaker}
use Rattle.sparql_solve.specs.Matching.{matches_of}
use Rattle.sparql_solve.proofs.FewLemmas.{all_enough, one_enough, some_as}
use Rattle.sparql_solve.proofs.matching.some_of_one.Goals as goal

pub returns-then-few : goal.returns-then-few
returns-then-few g c d l =
    all_enough (g.S.Source.contents c.args.source.now) c.args.graph.now c.args.places.now c.args.row.now c.in_ok-few.few.are_all
    c.in_ok-few.few.quads.items c.in_ok-few.ensures.some c.deref.result.now c.in_ok-rows.rows.items c.deref.ensures.value c.in_ok-rows.ensures d l
    c.if-few.true

pub returns-then-is_empty : goal.returns-then-is_empty
returns-then-is_empty g c =
    IfOk-weaker c.rows_of_one.result _ _
    (λ out h. some_as (g.S.Source.contents c.args.source.now) (λ d. matches_of (d.quads c.args.graph.now) c.args.places.now c.args.row.now) out.items h)
    c.rows_of_one.ensures

pub returns : goal.returns
returns g c d l =
    one_enough (g.S.Source.contents c.args.source.now) c.args.graph.now c.args.places.now c.args.row.now c.in_ok-few.few.are_all
    c.in_ok-few.few.quads.items c.in_ok-few.ensures.some c.deref.result.now c.in_ok-rows.rows.items c.deref.ensures.value c.in_ok-rows.ensures d l
    _ (sym c.is_empty.ensures ∙ c.if-is_empty.false) (omega (arith, c.in_ok-rows.rows.ok.0))
