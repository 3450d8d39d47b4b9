use Rattle.std.proofs.Common.{◌≡◌, drop}
use Rattle.rdf_lines.specs.Inside.StateListing.{are_named}
use Rattle.rdf_lines.proofs.state_text.check.are_named.Given as goal

abbrev pub invariant-loop-quad : goal.invariant-loop-quad
invariant-loop-quad l = are_named l.fn.names l.quads ≡ are_named l.rest (drop l.quad-index l.quads)
