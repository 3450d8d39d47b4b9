use Rattle.std.proofs.Common.{◌≡◌, length}
use Rattle.std.specs.Vec.Iter.{into_iter_items, into_iter_len}
use Rattle.sparql_eval.proofs.QuadLemmas.{IsAdding}
use Rattle.sparql_eval.proofs.quads.add_graph.Given as goal

abbrev pub invariant-loop-quad : goal.invariant-loop-quad
invariant-loop-quad g l = record {
  steps : (goal.iterator-loop-quad g).can_next l.quad-iterator;
  ends : (goal.iterator-loop-quad g).is_finite l.quad-iterator;
  beneath : l.view.under ≡ l.fn.view.under;
  adding : IsAdding l.fn.view.now l.view.now l.from l.to (into_iter_items l.quad-iterator);
  count : into_iter_len l.quad-iterator ≡ length (into_iter_items l.quad-iterator);
}
