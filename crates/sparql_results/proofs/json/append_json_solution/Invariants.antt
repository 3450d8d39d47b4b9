use Rattle.std.proofs.Common.{codes}
use Rattle.std.specs.List.{flat_map, join_by, zip}
use Rattle.std.specs.Slice.Iter.{iter_rest}
use Rattle.std.specs.Iterator.Adapters.{zip_first, zip_second}
use Rattle.sparql_results.specs.JsonText.{bound, json_member}
use Rattle.sparql_results.proofs.SolutionLemmas.{Written}
use Rattle.sparql_results.proofs.json.append_json_solution.Given as goal

abbrev pub invariant-loop-name : goal.invariant-loop-name
invariant-loop-name l =
    Written l.initial.out.items (join_by json_member (codes ",") (flat_map bound (zip l.columns l.values))) l.out.items l.is_first
    (flat_map bound (zip (iter_rest (zip_first l.name-iterator)) (iter_rest (zip_second l.name-iterator))))
