use Rattle.std.proofs.Common.{◌≡◌, Some, map, take}
use Rattle.std.specs.List.{range_with_len}
use Rattle.sparql_solve.proofs.results.are_in_place.Given as goal

abbrev pub invariant-loop-column : goal.invariant-loop-column
invariant-loop-column l = record {
  at : l.place ≡ l.column-index;
  same : take l.column-index l.columns ≡ map Some (range_with_len 0 l.column-index);
}
