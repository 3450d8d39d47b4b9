use Rattle.std.proofs.lemmas.Result.{IfOk-weaker}
use Rattle.sparql_algebra.specs.Algebra.{translation}
use Rattle.sparql_solve.proofs.AskGroupLemmas.{whole_says}
use Rattle.sparql_solve.proofs.OwnLemmas.{nothing_is}
use Rattle.sparql_solve.proofs.asking.has_solution.Goals as goal

pub returns : goal.returns
returns g c =
    IfOk-weaker c.some_in_group.result _ _
    (λ answer h. whole_says c.args.scope.variables.now (g.S.Source.contents c.args.source.now) c.args.graph.now (translation c.args.pattern.now)
    c.in_ok-nothing.nothing answer (nothing_is c.args.scope.variables.now c.in_ok-nothing.nothing c.in_ok-nothing.ensures) h)
    c.some_in_group.ensures
