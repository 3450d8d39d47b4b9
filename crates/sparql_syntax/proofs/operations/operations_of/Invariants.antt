use Rattle.std.proofs.Common.{◌≡◌, ◌++◌, false, map}
use Rattle.std.specs.List.{AllByRecursion, list_any}
use Rattle.std.specs.Vec.Iter.{into_iter_items}
use Rattle.sparql_syntax.specs.Drafts.{IsDraftBelow}
use Rattle.sparql_syntax.specs.Rules as spec
use Rattle.sparql_syntax.proofs.operations.operations_of.Given as goal

abbrev pub invariant-loop-draft : goal.invariant-loop-draft
invariant-loop-draft l = record {
  steps : (goal.iterator-loop-draft).can_next l.draft-iterator;
  ends : (goal.iterator-loop-draft).is_finite l.draft-iterator;
  rest : map spec.operation_of l.fn.drafts.items ≡ l.operations.items ++ map spec.operation_of (into_iter_items l.draft-iterator);
  below : AllByRecursion IsDraftBelow (into_iter_items l.draft-iterator);
  ground : list_any spec.has_blank_in_delete (into_iter_items l.draft-iterator) ≡ false;
}
