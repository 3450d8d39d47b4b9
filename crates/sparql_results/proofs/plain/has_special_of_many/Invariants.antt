use Rattle.std.proofs.Common.{◌≡◌, take}
use Rattle.std.specs.List.{list_any}
use Rattle.sparql_results.specs.Plain.{is_special}
use Rattle.sparql_results.proofs.plain.has_special_of_many.Given as goal

abbrev pub invariant-loop-byte : goal.invariant-loop-byte
invariant-loop-byte l = l.found ≡ list_any is_special (take l.byte-index l.bytes)
