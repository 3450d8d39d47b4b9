use Rattle.std.proofs.Common.{◌≡◌, length, drop}
use Rattle.std.specs.List.{flat_map}
use Rattle.sparql_algebra.specs.Algebra.{translation}
use Rattle.sparql_algebra.specs.Listing.{Listing, Lists}
use Rattle.sparql_algebra.specs.Results.{is_some_solution}
use Rattle.sparql_algebra.specs.Under.{under}
use Rattle.sparql_solve.specs.Under.{under_name}
use Rattle.sparql_solve.proofs.asking.+some.Given as goal

abbrev pub invariant-some_in_union-loop-group : goal.invariant-some_in_union-loop-group
invariant-some_in_union-loop-group g l =
    length l.under ≡ length l.evaluation.scope.variables.now → (d : Listing) → Lists (g.S.Source.contents l.evaluation.source.now) d →
    is_some_solution (flat_map (λ p. under l.evaluation.scope.variables.now d l.graph (translation p) l.under) (drop l.group-index l.groups))
    ≡ is_some_solution (flat_map (λ p. under l.evaluation.scope.variables.now d l.graph (translation p) l.under) l.groups)

abbrev pub invariant-some_in_each-loop-name : goal.invariant-some_in_each-loop-name
invariant-some_in_each-loop-name g l =
    length l.under ≡ length l.evaluation.scope.variables.now → (d : Listing) → Lists (g.S.Source.contents l.evaluation.source.now) d →
    is_some_solution (flat_map (under_name l.evaluation.scope.variables.now d l.variable (translation l.pattern) l.under) (drop l.name-index l.names))
    ≡ is_some_solution (flat_map (under_name l.evaluation.scope.variables.now d l.variable (translation l.pattern) l.under) l.names)
