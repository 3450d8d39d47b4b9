use Rattle.std.proofs.Common.{◌≡◌, ◌++◌, drop, map}
use Rattle.sparql_solve.specs.Matching.{places_of}
use Rattle.sparql_solve.proofs.place.all_places.Given as goal

abbrev pub invariant-loop-pattern : goal.invariant-loop-pattern
invariant-loop-pattern l = l.out.items ++ map (places_of l.variables) (drop l.pattern-index l.patterns) ≡ map (places_of l.variables) l.patterns
