use Rattle.std.proofs.Common.{◌≤◌, length, take, drop, not}
use Rattle.std.specs.FinSet as set
use Rattle.std.specs.List.{AllByRecursion}
use Rattle.std.proofs.lemmas.List.Filters.{FiltersInPlace}
use Rattle.rdf_sets.proofs.SortedLemmas.{Below}
use Rattle.rdf_sets.proofs.sorted.keep_others.Given as goal

abbrev pub invariant-loop-place : goal.invariant-loop-place
invariant-loop-place g l =
    record {
      filters : FiltersInPlace (λ x. not (set.contains (set.from_list {R = g.T.Item.order} l.others) x)) l.fn.items.items l.items.items l.kept l.place;
      inside : l.passed ≤ length l.others;
      passed : AllByRecursion (λ y. Below g.T.Item.order y (drop l.place l.fn.items.items)) (take l.passed l.others);
    }
