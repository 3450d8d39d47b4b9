use Rattle.std.proofs.Common.{refl}
use Rattle.sparql_solve.specs.declared.look_ups.Graphs.TheVariants.{One}
use Rattle.sparql_solve.proofs.SideLemmas.{group_look_up}
use Rattle.sparql_solve.proofs.members.look_up_of_groups.Goals as goal

pub returns : goal.returns
returns g c =
    group_look_up c.args.evaluation.now.scope.variables.now (g.S.Source.contents c.args.evaluation.now.source.now) c.args.graph.now c.args.groups.now c.in-Some.group.now c.in-Some-lone_basic.basic.now
    (One c.in_ok-copy.field-0) c.in_ok-copy.field-0 c.in_ok-look_up_in.field-0 c.in-Some.ensures c.in-Some-lone_basic.ensures.just refl c.in_ok-copy.ensures
    c.in_ok-look_up_in.ensures
