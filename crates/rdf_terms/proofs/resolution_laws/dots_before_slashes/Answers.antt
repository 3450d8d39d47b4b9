use Rattle.std.proofs.Common.{codes, refl}
use Rattle.rdf_terms.specs.Dots.{without_dots}
use Rattle.rdf_terms.specs.Rewriting.{resolved}
use Rattle.rdf_terms.proofs.ResolutionLemmas.{means_resolved}
use Rattle.rdf_terms.proofs.resolution_laws.dots_before_slashes.Goals as goal

pub returns : goal.returns
unfolding resolved without_dots
returns c = means_resolved (codes "x:a") (codes "/.//b") (codes "x://b") refl refl refl
