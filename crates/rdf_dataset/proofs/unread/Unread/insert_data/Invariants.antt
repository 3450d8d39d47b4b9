use Rattle.std.proofs.Common.{◌≡◌, length}
use Rattle.std.specs.Vec.Iter.{into_iter_items, into_iter_len}
use Rattle.rdf_dataset.proofs.InsertionLemmas.{IsInserting}
use Rattle.rdf_dataset.proofs.unread.Unread.insert_data.Given as goal

abbrev pub invariant-loop-quad : goal.invariant-loop-quad
invariant-loop-quad g l = record {
  steps : (goal.iterator-loop-quad g).can_next l.quad-iterator;
  ends : (goal.iterator-loop-quad g).is_finite l.quad-iterator;
  inserting : IsInserting l.fn.self l.fn.quads.items l.blanks l.more l.first (into_iter_items l.quad-iterator);
  count : into_iter_len l.quad-iterator ≡ length (into_iter_items l.quad-iterator);
}
