use Rattle.std.proofs.Common.{◌≡◌, length}
use Rattle.std.specs.Vec.Iter.{into_iter_items, into_iter_len}
use Rattle.rdf_dataset.specs.State.{without_named, without_names}
use Rattle.rdf_dataset.proofs.ClearingLemmas.{each_gone}
use Rattle.rdf_dataset.proofs.staged.Staged.drop_names.Given as goal

abbrev pub invariant-loop-name : goal.invariant-loop-name
invariant-loop-name g l = record {
  steps : (goal.iterator-loop-name g).can_next l.name-iterator;
  ends : (goal.iterator-loop-name g).is_finite l.name-iterator;
  beneath : l.self.under ≡ l.fn.self.under;
  only : without_named l.self.now ≡ l.self.now;
  left : each_gone l.self.now (into_iter_items l.name-iterator) ≡ without_names l.fn.self.now;
  count : into_iter_len l.name-iterator ≡ length (into_iter_items l.name-iterator);
}
