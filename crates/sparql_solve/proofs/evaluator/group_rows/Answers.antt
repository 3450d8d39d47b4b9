use Rattle.std.proofs.lemmas.Result.{IfOk-weaker}
use Rattle.sparql_algebra.specs.Algebra.{translation}
use Rattle.sparql_solve.proofs.FollowLemmas.{whole_follows}
use Rattle.sparql_solve.proofs.OwnLemmas.{nothing_is}
use Rattle.sparql_solve.proofs.evaluator.group_rows.Goals as goal

pub returns : goal.returns
returns g c =
    IfOk-weaker c.group_under.result _ _
    (λ out h. whole_follows c.args.scope.variables.now (g.S.Source.contents c.args.source.now) c.args.graph.now (translation c.args.pattern.now)
    c.in_ok-nothing.nothing out.items (nothing_is c.args.scope.variables.now c.in_ok-nothing.nothing c.in_ok-nothing.ensures) h)
    c.group_under.ensures
