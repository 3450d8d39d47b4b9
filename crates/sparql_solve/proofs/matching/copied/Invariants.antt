use Rattle.std.proofs.Common.{◌≡◌, take}
use Rattle.sparql_solve.proofs.matching.copied.Given as goal

abbrev pub invariant-loop-place : goal.invariant-loop-place
invariant-loop-place l = l.all.items ≡ take l.place l.patterns.items
