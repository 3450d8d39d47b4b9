use Rattle.std.proofs.Common.{◌≡◌, false, length}
use Rattle.std.specs.List.{list_any}
use Rattle.sparql_results.specs.Plain.{is_special}
use Rattle.sparql_results.proofs.plain.is_plain.Given as goal

abbrev pub invariant-loop-bytes : goal.invariant-loop-bytes
invariant-loop-bytes l = list_any is_special l.rest ≡ false → list_any is_special l.fn.text ≡ false

abbrev pub decreases-loop-bytes : goal.decreases-loop-bytes
decreases-loop-bytes l = length l.rest
