use Rattle.std.proofs.Common.{◌≡◌, ◌≤◌, length}
use Rattle.std.specs.Vec.Iter.{into_iter_items, into_iter_len}
use Rattle.rdf_dataset.proofs.SourceLemmas.{IsGathering}
use Rattle.rdf_dataset.proofs.source.Source.named_quads.Given as goal

abbrev pub invariant-loop-name : goal.invariant-loop-name
invariant-loop-name g l = record {
  steps : (goal.iterator-loop-name g).can_next l.name-iterator;
  ends : (goal.iterator-loop-name g).is_finite l.name-iterator;
  gathering : IsGathering (g.Self.Source.contents l.self) (into_iter_items l.name-iterator) l.found.items;
  few : length l.found.items ≤ l.looked;
  count : into_iter_len l.name-iterator ≡ length (into_iter_items l.name-iterator);
}
