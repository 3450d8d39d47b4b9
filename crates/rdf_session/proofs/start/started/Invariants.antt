use Rattle.std.proofs.Common.{◌≡◌, ◌++◌, length}
use Rattle.std.specs.Vec.Iter.{into_iter_items, into_iter_len}
use Rattle.rdf_session.proofs.start.started.Given as goal

abbrev pub invariant-loop-quad : goal.invariant-loop-quad
invariant-loop-quad l = record {
  steps : (goal.iterator-loop-quad).can_next l.quad-iterator;
  ends : (goal.iterator-loop-quad).is_finite l.quad-iterator;
  parts : l.fn.quads.items ≡ l.start ++ into_iter_items l.quad-iterator;
  count : into_iter_len l.quad-iterator ≡ length (into_iter_items l.quad-iterator);
}
