use Rattle.std.proofs.Common.{◌≡◌, ◌++◌}
use Rattle.std.specs.List.{filter_map}
use Rattle.std.specs.Vec.Iter.{into_iter_items}
use Rattle.sparql_syntax.specs.Rules as spec
use Rattle.sparql_syntax.proofs.operations.quads_of.Given as goal

abbrev pub invariant-loop-pattern : goal.invariant-loop-pattern
invariant-loop-pattern l = record {
  steps : (goal.iterator-loop-pattern).can_next l.pattern-iterator;
  ends : (goal.iterator-loop-pattern).is_finite l.pattern-iterator;
  rest : filter_map spec.quad_of l.fn.patterns.items ≡ l.quads.items ++ filter_map spec.quad_of (into_iter_items l.pattern-iterator);
}
