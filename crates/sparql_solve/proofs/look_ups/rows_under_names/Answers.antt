use Rattle.sparql_solve.specs.Sides.{found_under}
use Rattle.sparql_solve.proofs.MemberLemmas.{more_gives}
use Rattle.sparql_solve.proofs.look_ups.rows_under_names.Goals as goal

pub loop-name-preserved : goal.loop-name-preserved
loop-name-preserved g c =
    more_gives (g.S.Source.contents c.args.evaluation.now.source.now)
    (λ d n. found_under c.args.evaluation.now.scope.variables.now d c.args.look_up.now c.args.variable.now c.args.row.now n) c.args.names.now c.loop-name.name-index
    c.name-item.result c.loop-name.out.items c.in_ok-found.found.items c.append.new.self.items c.loop-name-test.true c.name-item.is c.loop-name.invariant
    c.in_ok-found.ensures c.in_ok-append.ensures.items
