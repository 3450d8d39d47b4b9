use Rattle.std.proofs.Common.{length, string_bytes}
use Rattle.rdf_tokens.proofs.ValueNames.{Reads}
use Rattle.rdf_tokens.proofs.value.local_value.Given as goal

abbrev pub invariant-loop-c : goal.invariant-loop-c
invariant-loop-c l = Reads l.fn.slice (string_bytes l.value) l.rest

abbrev pub decreases-loop-c : goal.decreases-loop-c
decreases-loop-c l = length l.rest
