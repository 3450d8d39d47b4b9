use Rattle.std.proofs.Common.{length}
use Rattle.sparql_algebra.specs.Algebra.{element}
use Rattle.sparql_solve.specs.Steps.{Begins}
use Rattle.sparql_solve.proofs.sides.rows_looked_up.Given as goal

abbrev pub invariant-loop-taken : goal.invariant-loop-taken
invariant-loop-taken g l =
    Begins l.evaluation.scope.variables.now (g.S.Source.contents l.evaluation.source.now) l.graph l.under (element l.member) l.fn.rows.items l.out.items l.rest.items

abbrev pub decreases-loop-taken : goal.decreases-loop-taken
decreases-loop-taken g l = length l.rest.items
