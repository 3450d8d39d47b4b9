use Rattle.std.proofs.Common.{refl}
use Rattle.rdf_terms.specs.Dots.{without_dots}
use Rattle.rdf_terms.proofs.DotLawLemmas.{no_dots_left, others_kept}
use Rattle.rdf_terms.proofs.resolution_laws.dots_are_removed.Goals as goal

pub returns-clause-none_left : goal.returns-clause-none_left
returns-clause-none_left c = no_dots_left

pub returns-clause-others_kept : goal.returns-clause-others_kept
returns-clause-others_kept c = others_kept

pub returns-clause-examples : goal.returns-clause-examples
unfolding without_dots
returns-clause-examples c = (refl, refl)
