use Rattle.std.proofs.Common.{ap, ◌∙◌}
use Rattle.std.proofs.lemmas.Result.{IfOk-weaker}
use Rattle.sparql_algebra.specs.Algebra.{element}
use Rattle.sparql_algebra.specs.Under.{agreeing}
use Rattle.sparql_solve.proofs.StepLemmas.{alone_made, joined_made}
use Rattle.sparql_solve.proofs.sides.looked_up_alone.Goals as goal

pub returns-then-is_unbound : goal.returns-then-is_unbound
returns-then-is_unbound g c =
    IfOk-weaker c.grown_rows.result _ _
    (λ out h. joined_made c.args.evaluation.now.scope.variables.now (g.S.Source.contents c.args.evaluation.now.source.now) c.args._graph.now c.args.under.now (element c.args.member.now)
    c.args.row c.args.look_up.now c.requires c.is_joined.result c.is_unbound.result out.items c.is_joined.ensures c.if-is_joined.true c.is_unbound.ensures
    c.if-is_unbound.true h)
    c.grown_rows.ensures

pub returns : goal.returns
returns g c =
    IfOk-weaker c.compatible_rows.result _ _
    (λ out e. alone_made c.args.evaluation.now.scope.variables.now (g.S.Source.contents c.args.evaluation.now.source.now) c.args._graph.now c.args.under.now (element c.args.member.now)
    c.args.row c.args.look_up.now c.requires c.in_ok-found.found.items out.items c.in_ok-found.ensures
    (e ∙ ap (λ rows. agreeing rows c.args.under.now) c.in_ok-made.ensures))
    c.compatible_rows.ensures
