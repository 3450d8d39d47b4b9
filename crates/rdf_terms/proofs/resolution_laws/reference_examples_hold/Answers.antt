use Rattle.std.proofs.Common.{[], codes, refl, Some}
use Rattle.rdf_terms.specs.Dots.{without_dots}
use Rattle.rdf_terms.specs.ResolutionExamples.{there}
use Rattle.rdf_terms.specs.Rewriting.{resolved}
use Rattle.rdf_terms.proofs.ResolutionLemmas.{means_itself, means_resolved}
use Rattle.rdf_terms.proofs.resolution_laws.reference_examples_hold.Goals as goal

pub returns-clause-normal : goal.returns-clause-normal
unfolding resolved without_dots
returns-clause-normal c = (
  means_itself (Some there) (codes "g:h") (codes "g:h") refl refl,
  means_resolved there (codes "g") (codes "http://a/b/c/g") refl refl refl,
  means_resolved there (codes "./g") (codes "http://a/b/c/g") refl refl refl,
  means_resolved there (codes "g/") (codes "http://a/b/c/g/") refl refl refl,
  means_resolved there (codes "/g") (codes "http://a/g") refl refl refl,
  means_resolved there (codes "//g") (codes "http://g") refl refl refl,
  means_resolved there (codes "?y") (codes "http://a/b/c/d;p?y") refl refl refl,
  means_resolved there (codes "g?y") (codes "http://a/b/c/g?y") refl refl refl,
  means_resolved there (codes "#s") (codes "http://a/b/c/d;p?q#s") refl refl refl,
  means_resolved there (codes "g#s") (codes "http://a/b/c/g#s") refl refl refl,
  means_resolved there (codes "g?y#s") (codes "http://a/b/c/g?y#s") refl refl refl,
  means_resolved there (codes ";x") (codes "http://a/b/c/;x") refl refl refl,
  means_resolved there (codes "g;x") (codes "http://a/b/c/g;x") refl refl refl,
  means_resolved there (codes "g;x?y#s") (codes "http://a/b/c/g;x?y#s") refl refl refl,
  means_resolved there [] (codes "http://a/b/c/d;p?q") refl refl refl,
  means_resolved there (codes ".") (codes "http://a/b/c/") refl refl refl,
  means_resolved there (codes "./") (codes "http://a/b/c/") refl refl refl,
  means_resolved there (codes "..") (codes "http://a/b/") refl refl refl,
  means_resolved there (codes "../") (codes "http://a/b/") refl refl refl,
  means_resolved there (codes "../g") (codes "http://a/b/g") refl refl refl,
  means_resolved there (codes "../..") (codes "http://a/") refl refl refl,
  means_resolved there (codes "../../") (codes "http://a/") refl refl refl,
  means_resolved there (codes "../../g") (codes "http://a/g") refl refl refl,
)

pub returns-clause-abnormal : goal.returns-clause-abnormal
unfolding resolved without_dots
returns-clause-abnormal c = (
  means_resolved there (codes "../../../g") (codes "http://a/g") refl refl refl,
  means_resolved there (codes "../../../../g") (codes "http://a/g") refl refl refl,
  means_resolved there (codes "/./g") (codes "http://a/g") refl refl refl,
  means_resolved there (codes "/../g") (codes "http://a/g") refl refl refl,
  means_resolved there (codes "g.") (codes "http://a/b/c/g.") refl refl refl,
  means_resolved there (codes ".g") (codes "http://a/b/c/.g") refl refl refl,
  means_resolved there (codes "g..") (codes "http://a/b/c/g..") refl refl refl,
  means_resolved there (codes "..g") (codes "http://a/b/c/..g") refl refl refl,
  means_resolved there (codes "./../g") (codes "http://a/b/g") refl refl refl,
  means_resolved there (codes "./g/.") (codes "http://a/b/c/g/") refl refl refl,
  means_resolved there (codes "g/./h") (codes "http://a/b/c/g/h") refl refl refl,
  means_resolved there (codes "g/../h") (codes "http://a/b/c/h") refl refl refl,
  means_resolved there (codes "g;x=1/./y") (codes "http://a/b/c/g;x=1/y") refl refl refl,
  means_resolved there (codes "g;x=1/../y") (codes "http://a/b/c/y") refl refl refl,
  means_resolved there (codes "g?y/./x") (codes "http://a/b/c/g?y/./x") refl refl refl,
  means_resolved there (codes "g?y/../x") (codes "http://a/b/c/g?y/../x") refl refl refl,
  means_resolved there (codes "g#s/./x") (codes "http://a/b/c/g#s/./x") refl refl refl,
  means_resolved there (codes "g#s/../x") (codes "http://a/b/c/g#s/../x") refl refl refl,
  means_itself (Some there) (codes "http:g") (codes "http:g") refl refl,
)

pub returns-clause-other_bases : goal.returns-clause-other_bases
unfolding resolved without_dots
returns-clause-other_bases c = (
  means_resolved (codes "http://a") (codes "g") (codes "http://a/g") refl refl refl,
  means_resolved (codes "http://a?q") (codes "g") (codes "http://a/g") refl refl refl,
  means_resolved (codes "urn:a") (codes "g") (codes "urn:g") refl refl refl,
  means_resolved (codes "urn:a") (codes "#s") (codes "urn:a#s") refl refl refl,
  means_resolved (codes "http://a/b?q") (codes "?") (codes "http://a/b?") refl refl refl,
  means_resolved (codes "http://a/b?q#f") [] (codes "http://a/b?q") refl refl refl,
  means_resolved there (codes "//g/h/../i") (codes "http://g/i") refl refl refl,
)
