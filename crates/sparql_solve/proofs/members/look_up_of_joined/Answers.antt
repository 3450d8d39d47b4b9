use Rattle.std.proofs.Common.{refl}
use Rattle.std.proofs.lemmas.Result.{IfOk-weaker}
use Rattle.sparql_solve.specs.declared.look_ups.Graphs.TheVariants.{One}
use Rattle.sparql_solve.proofs.SideLemmas.{some_weaker, basic_look_up, look_up_member, union_look_up}
use Rattle.sparql_solve.proofs.members.look_up_of_joined.Goals as goal

pub returns-in_ok-look_up_in-in-Basic : goal.returns-in_ok-look_up_in-in-Basic
returns-in_ok-look_up_in-in-Basic g c =
    basic_look_up c.args.evaluation.now.scope.variables.now (g.S.Source.contents c.args.evaluation.now.source.now) c.args.graph.now c.args.member.now c.in-Basic.basic
    (One c.in_ok-copy-in-Basic.field-0) c.in_ok-copy-in-Basic.field-0 c.in_ok-look_up_in-in-Basic.field-0 c.in-Basic.is refl c.in_ok-copy-in-Basic.ensures
    c.in_ok-look_up_in-in-Basic.ensures

pub returns-in-Graph : goal.returns-in-Graph
returns-in-Graph g c =
    IfOk-weaker c.look_up_of_graph.result _ _
    (λ found h. some_weaker found _ _
    (λ l r. look_up_member c.args.evaluation.now.scope.variables.now (g.S.Source.contents c.args.evaluation.now.source.now) c.args.graph.now c.args.member.now c.in-Graph.name
    c.in-Graph.pattern l c.in-Graph.is r) h)
    c.look_up_of_graph.ensures

pub returns-in-Union : goal.returns-in-Union
returns-in-Union g c =
    IfOk-weaker c.look_up_of_groups.result _ _
    (λ found h. some_weaker found _ _
    (λ l r. union_look_up c.args.evaluation.now.scope.variables.now (g.S.Source.contents c.args.evaluation.now.source.now) c.args.graph.now c.args.member.now c.in-Union.groups
    c.as_slice.result.now l c.in-Union.is c.as_slice.ensures r) h)
    c.look_up_of_groups.ensures
