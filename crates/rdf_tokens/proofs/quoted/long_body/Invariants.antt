use Rattle.std.proofs.Common.{◌≡◌, length}
use Rattle.rdf_tokens.specs.Inside.TokenReading.{long_body_at}
use Rattle.rdf_tokens.proofs.quoted.long_body.Given as goal

abbrev pub invariant-loop-behind : goal.invariant-loop-behind
invariant-loop-behind l = long_body_at l.quote l.rest ≡ long_body_at l.quote l.fn.cursor

abbrev pub decreases-loop-behind : goal.decreases-loop-behind
decreases-loop-behind l = length l.rest
