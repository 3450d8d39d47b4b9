use Rattle.std.proofs.Common.{ap}
use Rattle.std.proofs.lemmas.Result.{IfOk-weaker}
use Rattle.rdf_terms.specs.declared.quad.GraphName.TheVariants.{Named}
use Rattle.sparql_solve.proofs.SideLemmas.{under_name_gives}
use Rattle.sparql_solve.proofs.look_ups.rows_under_name.Goals as goal

pub returns-then-is_compatible : goal.returns-then-is_compatible
returns-then-is_compatible g c =
    IfOk-weaker c.rows_in_graph.result _ _
    (λ out h. under_name_gives c.args.evaluation.now.scope.variables.now (g.S.Source.contents c.args.evaluation.now.source.now) c.args.look_up.now c.args.variable.now c.args.row.now
    c.args.name.now c.in_ok-bound.bound c.in_ok-row.row (Named c.in_ok-copy.field-0) c.is_compatible.result out.items c.in_ok-bound.ensures
    c.is_compatible.ensures c.if-is_compatible.true c.in_ok-row.ensures (ap Named c.in_ok-copy.ensures) h)
    c.rows_in_graph.ensures
