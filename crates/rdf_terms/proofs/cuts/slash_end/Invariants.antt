use Rattle.std.proofs.Common.{◌≡◌, ◌≤◌, length, take}
use Rattle.rdf_terms.specs.Cuts.{up_to_slash}
use Rattle.rdf_terms.proofs.cuts.slash_end.Given as goal

abbrev pub invariant-loop-end : goal.invariant-loop-end
invariant-loop-end l = (l.end ≤ length l.text) × (up_to_slash (take l.end l.text) ≡ up_to_slash l.text)

abbrev pub decreases-loop-end : goal.decreases-loop-end
decreases-loop-end l = l.end
