use Rattle.std.proofs.Common.{◌≡◌, length}
use Rattle.std.specs.Vec.Iter.{into_iter_items, into_iter_len}
use Rattle.rdf_terms.specs.Below.{AreBelow}
use Rattle.rdf_dataset.specs.Insertion.{with_all}
use Rattle.sparql_eval.proofs.unread.insert_all.Given as goal

abbrev pub invariant-loop-quad : goal.invariant-loop-quad
invariant-loop-quad g l = record {
  steps : (goal.iterator-loop-quad g).can_next l.quad-iterator;
  ends : (goal.iterator-loop-quad g).is_finite l.quad-iterator;
  beneath : l.more.under ≡ l.fn.unread.under;
  left : with_all l.more.now (into_iter_items l.quad-iterator) ≡ with_all l.fn.unread.now l.fn.quads.items;
  below : AreBelow l.more.now.next (into_iter_items l.quad-iterator);
  count : into_iter_len l.quad-iterator ≡ length (into_iter_items l.quad-iterator);
}
