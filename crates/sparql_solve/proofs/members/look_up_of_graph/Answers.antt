use Rattle.sparql_solve.proofs.EmptyLemmas.{names_are, nothing_look_up}
use Rattle.sparql_solve.proofs.SideLemmas.{graph_look_up}
use Rattle.sparql_solve.proofs.members.look_up_of_graph.Goals as goal

pub returns-then-holds_none : goal.returns-then-holds_none
returns-then-holds_none g c =
    nothing_look_up c.args.evaluation.now.scope.variables.now (g.S.Source.contents c.args.evaluation.now.source.now) c.args.name.now c.args.pattern.now c.in_ok-named.named
    c.look_up_of_names.result (c.holds_none.ensures c.if-holds_none.true) c.in_ok-named.ensures
    (names_are c.look_up_of_names.result c.in_ok-named.named c.look_up_of_names.ensures.graphs c.look_up_of_names.ensures.places
    c.look_up_of_names.ensures.hidden c.args.evaluation.now.scope.variables.now)

pub returns : goal.returns
returns g c =
    graph_look_up c.args.evaluation.now.scope.variables.now (g.S.Source.contents c.args.evaluation.now.source.now) c.args.name.now c.args.pattern.now c.in-Some.basic.now
    c.in_ok-graphs.graphs c.in_ok-look_up_in.field-0 c.in-Some.ensures.just c.in_ok-graphs.ensures c.in_ok-look_up_in.ensures
