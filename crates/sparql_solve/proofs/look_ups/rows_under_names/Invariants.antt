use Rattle.std.proofs.Common.{drop}
use Rattle.std.specs.List.{flat_map}
use Rattle.sparql_solve.specs.Sides.{found_under}
use Rattle.sparql_solve.specs.Members.{AreMoreSolutions}
use Rattle.sparql_solve.proofs.look_ups.rows_under_names.Given as goal

abbrev pub invariant-loop-name : goal.invariant-loop-name
invariant-loop-name g l =
    AreMoreSolutions (g.S.Source.contents l.evaluation.source.now) l.out.items (λ d. flat_map (found_under l.evaluation.scope.variables.now d l.look_up l.variable l.row) (drop l.name-index l.names))
    (λ d. flat_map (found_under l.evaluation.scope.variables.now d l.look_up l.variable l.row) l.names)
