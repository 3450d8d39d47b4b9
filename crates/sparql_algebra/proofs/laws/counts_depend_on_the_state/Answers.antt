use Rattle.std.proofs.Common.{cond}
use Rattle.sparql_values.specs.Mapping.{same_mapping}
use Rattle.sparql_algebra.proofs.CountLawLemmas.{assignments_count_once, assignments_listed}
use Rattle.sparql_algebra.proofs.IndependenceLemmas.{listings_same}
use Rattle.sparql_algebra.specs.Listing.{listing_of}
use Rattle.sparql_algebra.proofs.ListingLemmas.{there_is_a_listing, triple_listed, name_listed}
use Rattle.sparql_algebra.proofs.laws.counts_depend_on_the_state.Goals as goal

pub returns-clause-listing : goal.returns-clause-listing
returns-clause-listing c s = (listing_of s, there_is_a_listing s)

pub returns-clause-agree : goal.returns-clause-agree
returns-clause-agree c s d e h k variables g P m = listings_same s d e h k variables g P (λ x. cond (same_mapping m x) 1 0)

pub returns-clause-triples : goal.returns-clause-triples
returns-clause-triples c s d h g x y z = triple_listed s g (d.quads g) (h.quads g) x y z

pub returns-clause-names : goal.returns-clause-names
returns-clause-names c s d h n = name_listed s d.names h.names n

pub returns-clause-assignments : goal.returns-clause-assignments
returns-clause-assignments c = assignments_count_once

pub returns-clause-assignments_listed : goal.returns-clause-assignments_listed
returns-clause-assignments_listed c = assignments_listed
