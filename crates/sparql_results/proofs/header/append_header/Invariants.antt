use Rattle.std.proofs.Common.{◌≡◌, ◌++◌, codes, take}
use Rattle.std.specs.List.{flat_map}
use Rattle.sparql_results.specs.ResultsText.{column_text}
use Rattle.sparql_results.proofs.header.append_header.Given as goal

abbrev pub invariant-loop-name : goal.invariant-loop-name
invariant-loop-name l = l.out.items ≡ l.initial.out.items ++ flat_map (λ name. codes "\t" ++ column_text name) (take l.name-index l.others)
