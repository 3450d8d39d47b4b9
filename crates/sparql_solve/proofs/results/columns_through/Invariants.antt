use Rattle.std.proofs.Common.{◌≡◌, ◌++◌, drop, map}
use Rattle.sparql_solve.specs.Pairs.{through}
use Rattle.sparql_solve.proofs.results.columns_through.Given as goal

abbrev pub invariant-loop-place : goal.invariant-loop-place
invariant-loop-place l = l.out.items ++ map (through l.columns) (drop l.place-index l.places) ≡ map (through l.columns) l.places
