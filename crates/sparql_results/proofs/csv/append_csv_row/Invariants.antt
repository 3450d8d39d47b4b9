use Rattle.std.proofs.Common.{◌≡◌, ◌++◌, codes, take}
use Rattle.std.specs.List.{flat_map}
use Rattle.sparql_results.specs.CsvText.{csv_field, plain_text}
use Rattle.sparql_results.proofs.csv.append_csv_row.Given as goal

abbrev pub invariant-loop-value : goal.invariant-loop-value
invariant-loop-value l =
    l.out.items ≡ l.initial.out.items ++ flat_map (λ value. codes "," ++ csv_field l.is_alone (plain_text value)) (take l.value-index l.others)
