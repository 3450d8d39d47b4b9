use Rattle.sparql_solve.proofs.GrownLemmas.{last_name}
use Rattle.sparql_solve.proofs.look_ups.grown_under_names.Goals as goal

pub returns : goal.returns
returns g c =
    last_name c.args.evaluation.now.scope.variables.now (g.S.Source.contents c.args.evaluation.now.source.now) c.args.look_up.now c.args.variable.now c.args.row
    c.args.names.now c.in-Some.others.now c.in-Some.last.now c.in_ok-out.out.items c.in_ok-more.more.items c.append.new.self.items c.in-Some.ensures.cases
    c.in_ok-out.ensures c.in_ok-more.ensures c.in_ok-append.ensures.items
