use Rattle.std.proofs.Common.{◌≡◌, ◌++◌, drop}
use Rattle.sparql_eval.specs.Templates.{instances}
use Rattle.sparql_eval.proofs.template.push_instances.Given as goal

abbrev pub invariant-loop-pattern : goal.invariant-loop-pattern
invariant-loop-pattern l =
    l.out.items ++ instances l.variables l.home l.blanks (drop l.pattern-index l.quads) l.first l.row ≡ l.fn.out.items ++ instances l.variables l.home l.blanks l.quads l.first l.row
