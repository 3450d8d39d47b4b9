use Rattle.std.proofs.Common.{refl}
use Rattle.sparql_algebra.specs.Algebra.{element}
use Rattle.sparql_solve.proofs.StepLemmas.{begins_further, begins_nothing, begins_whole}
use Rattle.sparql_solve.proofs.sides.rows_looked_up.Goals as goal

pub returns-in-Some : goal.returns-in-Some
returns-in-Some g c =
    begins_whole c.args.evaluation.now.scope.variables.now (g.S.Source.contents c.args.evaluation.now.source.now) c.args.graph.now c.args.under.now (element c.args.member.now)
    c.args.rows.items c.args.rows.items c.in_ok-once.once.items c.all_made.result.rows.items c.all_made.result.rest.items refl
    c.all_made.ensures.made c.all_made.ensures.rest c.in_ok-once.ensures

pub loop-taken-init : goal.loop-taken-init
loop-taken-init g c =
    begins_nothing c.args.evaluation.now.scope.variables.now (g.S.Source.contents c.args.evaluation.now.source.now) c.args.graph.now c.args.under.now (element c.args.member.now)
    c.args.rows.items c.new-out.result.items c.from_vec-rest.result.items c.new-out.ensures.items c.from_vec-rest.ensures.items

pub loop-taken-preserved : goal.loop-taken-preserved
loop-taken-preserved g c =
    begins_further c.args.evaluation.now.scope.variables.now (g.S.Source.contents c.args.evaluation.now.source.now) c.args.graph.now c.args.under.now (element c.args.member.now)
    c.args.rows.items c.loop-taken.out.items c.loop-taken.rest.items c.in_ok-made.made.items c.first_looked_up.new.rest.items c.append.new.self.items
    c.in_ok-append.ensures.items c.loop-taken.invariant c.in_ok-made.ensures.begins
