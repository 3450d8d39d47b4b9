use Rattle.std.proofs.Common.{◌≡◌, ◌++◌, map}
use Rattle.std.specs.List.{zip}
use Rattle.std.specs.Slice.Iter.{iter_rest}
use Rattle.std.specs.Iterator.Adapters.{zip_first, zip_second}
use Rattle.sparql_values.specs.Mapping.{first_of}
use Rattle.sparql_solve.proofs.mappings.Mapping.merged_plainly.Given as goal

abbrev pub invariant-loop-x : goal.invariant-loop-x
invariant-loop-x l =
    l.values.items ++ map first_of (zip (iter_rest (zip_first l.x-iterator)) (iter_rest (zip_second l.x-iterator)))
    ≡ map first_of (zip l.own l.others)
