use Rattle.std.proofs.Common.{◌≡◌, ◌++◌, codes, take}
use Rattle.std.specs.List.{flat_map}
use Rattle.sparql_results.specs.CsvText.{csv_field}
use Rattle.sparql_results.proofs.csv.append_csv_header.Given as goal

abbrev pub invariant-loop-name : goal.invariant-loop-name
invariant-loop-name l = l.out.items ≡ l.initial.out.items ++ flat_map (λ name. codes "," ++ csv_field l.is_alone name) (take l.name-index l.others)
