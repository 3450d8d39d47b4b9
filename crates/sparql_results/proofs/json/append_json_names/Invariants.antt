use Rattle.std.proofs.Common.{◌≡◌, ◌++◌, codes, take}
use Rattle.std.specs.List.{flat_map}
use Rattle.sparql_results.specs.JsonText.{json_string}
use Rattle.sparql_results.proofs.json.append_json_names.Given as goal

abbrev pub invariant-loop-name : goal.invariant-loop-name
invariant-loop-name l = l.out.items ≡ l.initial.out.items ++ flat_map (λ name. codes "," ++ json_string name) (take l.name-index l.others)
