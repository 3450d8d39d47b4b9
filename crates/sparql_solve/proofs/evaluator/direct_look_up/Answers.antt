use Rattle.sparql_solve.proofs.TakenLemmas.{removed_gives, removed_look_up}
use Rattle.sparql_solve.proofs.evaluator.direct_look_up.Goals as goal

pub returns-in-Some-clause-gives : goal.returns-in-Some-clause-gives
returns-in-Some-clause-gives g c =
    removed_gives c.args.evaluation.now.scope.variables.now (g.S.Source.contents c.args.evaluation.now.source.now) c.args.graph.now c.args.member.now c.in-Some.basic.now
    c.in_ok-copy.field-0 c.in_ok-look_up_in.field-0 c.in-Some.ensures.just c.in_ok-copy.ensures c.in_ok-look_up_in.ensures

pub returns-in-Some-clause-counts : goal.returns-in-Some-clause-counts
returns-in-Some-clause-counts g c =
    removed_look_up c.args.evaluation.now.scope.variables.now (g.S.Source.contents c.args.evaluation.now.source.now) c.args.graph.now c.args.member.now c.in-Some.basic.now
    c.in_ok-copy.field-0 c.in_ok-look_up_in.field-0 c.in-Some.ensures.just c.in_ok-copy.ensures c.in_ok-look_up_in.ensures
