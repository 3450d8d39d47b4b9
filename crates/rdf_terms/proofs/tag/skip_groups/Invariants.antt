use Rattle.std.proofs.Common.{◌≡◌, length, false}
use Rattle.rdf_terms.specs.Tags.{skip_groups}
use Rattle.rdf_terms.proofs.tag.skip_groups.Given as goal

abbrev pub invariant-loop-c : goal.invariant-loop-c
invariant-loop-c l = skip_groups l.within l.rest ≡ skip_groups false l.fn.at

abbrev pub decreases-loop-c : goal.decreases-loop-c
decreases-loop-c l = length l.rest
