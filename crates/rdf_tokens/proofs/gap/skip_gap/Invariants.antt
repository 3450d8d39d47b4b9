use Rattle.std.proofs.Common.{◌≡◌, length, false}
use Rattle.rdf_terms.specs.Skips.{skip}
use Rattle.rdf_tokens.specs.Characters.{is_white}
use Rattle.rdf_tokens.specs.Inside.TokenReading.{skip_gap}
use Rattle.rdf_tokens.proofs.gap.skip_gap.Given as goal

abbrev pub invariant-loop-comment : goal.invariant-loop-comment
invariant-loop-comment l = (skip_gap false l.rest ≡ skip_gap false l.fn.cursor) × (skip is_white l.rest ≡ l.rest)

abbrev pub decreases-loop-comment : goal.decreases-loop-comment
decreases-loop-comment l = length l.rest
