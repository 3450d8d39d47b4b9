use Rattle.std.proofs.Common.{◌+◌, ◌≤◌, length}
use Rattle.std.specs.Vec.{vec_capacity}
use Rattle.rdf_sets.specs.Inside.Merging.{IsMerging}
use Rattle.rdf_sets.proofs.sorted.merge_into.Given as goal

abbrev pub decreases-loop-item : goal.decreases-loop-item
decreases-loop-item g l = length l.items.items + length l.more.items

abbrev pub invariant-loop-item : goal.invariant-loop-item
invariant-loop-item g l =
    record {
      merging : IsMerging g.T.Item.order l.fn.items.items l.fn.more.items l.items.items l.more.items l.merged.items;
      room : length l.items.items + (length l.more.items + length l.merged.items) ≤ vec_capacity l.merged;
    }
