use Rattle.std.proofs.lemmas.Result.{IfOk-weaker}
use Rattle.std.proofs.Common.{refl}
use Rattle.sparql_algebra.specs.Algebra.{element}
use Rattle.sparql_solve.specs.Under.{own_columns}
use Rattle.sparql_solve.proofs.FollowLemmas.{all_are_enough, none_are_enough, some_are_enough}
use Rattle.sparql_solve.proofs.sides.counting_rows.Goals as goal

pub returns-then-not-is_removed : goal.returns-then-not-is_removed
returns-then-not-is_removed g c =
    IfOk-weaker c.found_rows.result _ _
    (λ out h. all_are_enough c.args.evaluation.now.scope.variables.now (g.S.Source.contents c.args.evaluation.now.source.now) c.args.row.now c.args.look_up.now out.items
    (element c.args.member.now) c.is_removed.result c.is_removed.ensures c.if-not-is_removed.true h)
    c.found_rows.ensures

pub returns-then-is_unbound_in : goal.returns-then-is_unbound_in
returns-then-is_unbound_in g c =
    none_are_enough c.args.evaluation.now.scope.variables.now (g.S.Source.contents c.args.evaluation.now.source.now) c.args.row.now c.args.look_up.now c.new.result.items
    (element c.args.member.now) c.is_removed.result c.is_unbound_in.result (own_columns c.args.evaluation.now.scope.variables.now c.args.look_up.now) c.is_removed.ensures c.if-not-is_removed.false refl
    c.is_unbound_in.ensures c.if-is_unbound_in.true c.new.ensures.items

pub returns : goal.returns
returns g c =
    IfOk-weaker c.some_found.result _ _
    (λ out h. some_are_enough c.args.evaluation.now.scope.variables.now (g.S.Source.contents c.args.evaluation.now.source.now) c.args.row.now c.args.look_up.now out.items
    (element c.args.member.now) c.is_removed.result c.is_unbound_in.result (own_columns c.args.evaluation.now.scope.variables.now c.args.look_up.now) c.is_removed.ensures c.if-not-is_removed.false refl
    c.is_unbound_in.ensures c.if-is_unbound_in.false h)
    c.some_found.ensures
