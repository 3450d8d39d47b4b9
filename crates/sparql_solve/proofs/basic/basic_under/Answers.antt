use Rattle.std.proofs.Common.{refl}
use Rattle.std.proofs.lemmas.Result.{IfOk-weaker}
use Rattle.sparql_solve.specs.declared.look_ups.Graphs.TheVariants.{One}
use Rattle.sparql_solve.proofs.FollowLemmas.{basic_follows}
use Rattle.sparql_solve.proofs.basic.basic_under.Goals as goal

pub returns : goal.returns
returns g c =
    IfOk-weaker c.own_rows.result _ _
    (λ out h. basic_follows c.args.evaluation.now.scope.variables.now (g.S.Source.contents c.args.evaluation.now.source.now) c.args.graph.now c.in_ok-copy.field-0 (One c.in_ok-copy.field-0)
    c.args.pattern.now c.in_ok-look_up.look_up.places c.in_ok-look_up.look_up c.args.under.now out.items c.in_ok-own.own c.in_ok-own.own refl
    c.in_ok-copy.ensures c.in_ok-look_up.ensures refl c.in_ok-own.ensures refl h)
    c.own_rows.ensures
