use Rattle.std.proofs.Common.{◌≡◌, ◌++◌, length}
use Rattle.std.specs.List.{flat_map}
use Rattle.rdf_lines.specs.StateText.{name_line}
use Rattle.rdf_lines.specs.Inside.StateListing.{AreNames}
use Rattle.rdf_lines.proofs.state_text.parts.names_and_more.Given as goal

abbrev pub invariant-loop-name_and_more : goal.invariant-loop-name_and_more
invariant-loop-name_and_more l = AreNames l.names.items × (l.text ≡ flat_map name_line l.names.items ++ l.rest)

abbrev pub decreases-loop-name_and_more : goal.decreases-loop-name_and_more
decreases-loop-name_and_more l = length l.rest
