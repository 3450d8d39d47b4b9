use Rattle.std.proofs.Common.{◌≡◌, ◌++◌, drop, map}
use Rattle.sparql_solve.specs.Matching.{matches_of}
use Rattle.sparql_solve.proofs.partners.append_copies.Given as goal

abbrev pub invariant-loop-quad : goal.invariant-loop-quad
invariant-loop-quad l =
    l.out.items ++ matches_of (map (λ q. q.now) (drop l.quad-index l.quads)) l.places l.row ≡ l.fn.out.items ++ matches_of (map (λ q. q.now) l.quads) l.places l.row
