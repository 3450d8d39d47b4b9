use Rattle.std.proofs.Common.{◌≡◌, true, length}
use Rattle.sparql_solve.specs.Shown.{apart}
use Rattle.sparql_solve.proofs.shown.are_apart.Given as goal

abbrev pub invariant-loop-first : goal.invariant-loop-first
invariant-loop-first l = apart l.rest ≡ true → apart l.columns ≡ true

abbrev pub decreases-loop-first : goal.decreases-loop-first
decreases-loop-first l = length l.rest
