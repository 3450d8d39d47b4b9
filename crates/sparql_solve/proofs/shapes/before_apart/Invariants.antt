use Rattle.std.proofs.Common.{◌≡◌, ◌≤◌, true, length, drop}
use Rattle.std.specs.List.{list_all}
use Rattle.sparql_algebra.specs.Algebra.{element}
use Rattle.sparql_solve.specs.Under.{is_apart}
use Rattle.sparql_solve.proofs.shapes.before_apart.Given as goal

abbrev pub invariant-loop-first : goal.invariant-loop-first
invariant-loop-first l = record {
  within : l.first ≤ length l.members;
  apart : list_all (λ m. is_apart (element m)) (drop l.first l.members) ≡ true;
}

abbrev pub decreases-loop-first : goal.decreases-loop-first
decreases-loop-first l = l.first
