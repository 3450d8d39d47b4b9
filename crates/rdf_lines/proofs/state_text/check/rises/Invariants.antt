use Rattle.std.proofs.Common.{◌≡◌, drop, None}
use Rattle.std.specs.Option.{option_copied}
use Rattle.rdf_lines.specs.Inside.StateListing.{rises}
use Rattle.rdf_lines.proofs.state_text.check.rises.Given as goal

abbrev pub invariant-loop-item : goal.invariant-loop-item
invariant-loop-item g l = rises g.T.Ord.cmp None l.items ≡ rises g.T.Ord.cmp (option_copied l.last) (drop l.item-index l.items)
