use Rattle.std.proofs.Common.{◌≡◌, ◌≤◌, length, take, drop}
use Rattle.std.specs.Prelude.{filter}
use Rattle.std.specs.FinSet as set
use Rattle.std.specs.List.{AllByRecursion}
use Rattle.rdf_sets.proofs.SortedLemmas.{Below}
use Rattle.rdf_sets.proofs.sorted.common_items.Given as goal

abbrev pub invariant-loop-place : goal.invariant-loop-place
invariant-loop-place g l =
    record {
      common : l.common.items ≡ filter (λ x. set.contains (set.from_list {R = g.T.Item.order} l.others) x) (take l.place l.items);
      inside : l.passed ≤ length l.others;
      passed : AllByRecursion (λ y. Below g.T.Item.order y (drop l.place l.items)) (take l.passed l.others);
    }
