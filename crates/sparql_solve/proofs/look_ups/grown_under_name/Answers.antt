use Rattle.std.proofs.Common.{ap}
use Rattle.std.proofs.lemmas.Result.{IfOk-weaker}
use Rattle.rdf_terms.specs.declared.quad.GraphName.TheVariants.{Named}
use Rattle.sparql_solve.proofs.GrownLemmas.{grown_name, no_name}
use Rattle.sparql_solve.proofs.look_ups.grown_under_name.Goals as goal

pub returns-then-not-branch : goal.returns-then-not-branch
returns-then-not-branch g c =
    no_name c.args.evaluation.now.scope.variables.now (g.S.Source.contents c.args.evaluation.now.source.now) c.args.look_up.now c.args.variable.now c.args.row c.args.name.now
    c.column.result c.in_ok-bind.field-0 c.new.result.items c.column.ensures c.in_ok-bind.ensures.fits c.if-not-branch.true c.new.ensures.items

pub returns : goal.returns
returns g c =
    IfOk-weaker c.grown_in_graph.result _ _
    (λ out h. grown_name c.args.evaluation.now.scope.variables.now (g.S.Source.contents c.args.evaluation.now.source.now) c.args.look_up.now c.args.variable.now c.args.row
    c.args.name.now c.column.result c.in_ok-bind.field-0 c.bind.new.self (Named c.in_ok-copy.field-0) out.items c.column.ensures
    c.in_ok-bind.ensures.fits c.if-not-branch.false (c.in_ok-bind.ensures.bound c.if-not-branch.false) (ap Named c.in_ok-copy.ensures) h)
    c.grown_in_graph.ensures
