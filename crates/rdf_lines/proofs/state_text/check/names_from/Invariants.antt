use Rattle.std.proofs.Common.{◌≡◌, length}
use Rattle.rdf_lines.specs.Inside.StateListing.{names_from}
use Rattle.rdf_lines.proofs.state_text.check.names_from.Given as goal

abbrev pub invariant-loop-first : goal.invariant-loop-first
invariant-loop-first l = names_from l.name l.names ≡ names_from l.name l.rest

abbrev pub decreases-loop-first : goal.decreases-loop-first
decreases-loop-first l = length l.rest
