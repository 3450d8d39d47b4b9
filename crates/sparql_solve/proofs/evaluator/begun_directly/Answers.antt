use Rattle.sparql_algebra.specs.Algebra.{element}
use Rattle.sparql_solve.specs.Members.{element_solutions}
use Rattle.sparql_solve.specs.Under.{IsLookUpFor, IsLookUpOf}
use Rattle.sparql_solve.proofs.FollowLemmas.{some_of}
use Rattle.sparql_solve.proofs.evaluator.begun_directly.Goals as goal

pub rows_looked_up-requires-clause-gives : goal.rows_looked_up-requires-clause-gives
rows_looked_up-requires-clause-gives g c =
    some_of c.args.evaluation.now.scope.variables.now (g.S.Source.contents c.args.evaluation.now.source.now)
    (λ l. IsLookUpOf c.args.evaluation.now.scope.variables.now (g.S.Source.contents c.args.evaluation.now.source.now) l
    (λ d. element_solutions c.args.evaluation.now.scope.variables.now d c.args.graph.now (element c.args.member.now)))
    c.in_ok-look_up.field-0 c.in-Some.look_up c.in-Some.is c.in_ok-look_up.ensures.gives

pub rows_looked_up-requires-clause-counts : goal.rows_looked_up-requires-clause-counts
rows_looked_up-requires-clause-counts g c =
    some_of c.args.evaluation.now.scope.variables.now (g.S.Source.contents c.args.evaluation.now.source.now)
    (λ l. IsLookUpFor c.args.evaluation.now.scope.variables.now (g.S.Source.contents c.args.evaluation.now.source.now) (element c.args.member.now) l
    (λ d. element_solutions c.args.evaluation.now.scope.variables.now d c.args.graph.now (element c.args.member.now)))
    c.in_ok-look_up.field-0 c.in-Some.look_up c.in-Some.is c.in_ok-look_up.ensures.counts
