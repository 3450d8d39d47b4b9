-- Tests of terms.
use Rattle.std.proofs.Common.{◌≡◌, true, ap}
use Rattle.std.specs.Ordering.{is_eq}
use Rattle.std.specs.Cmp.{Equal-is, tied_itself}
use Rattle.rdf_terms.specs.declared.term.Term.{Term}
use Rattle.rdf_terms.specs.Order.{term_cmp}
use Rattle.rdf_terms.specs.OrderLaws.{term_cmp_total, term_cmp-IsAntisymmetric}
use Rattle.sparql_values.specs.Mapping.{same_term}

pub same_term_is : (s t : Term) → same_term s t ≡ true → s ≡ t
same_term_is s t h = term_cmp-IsAntisymmetric s t ((Equal-is (term_cmp s t)).0 h)

pub same_term_own : (t : Term) → same_term t t ≡ true
same_term_own t = ap is_eq (tied_itself term_cmp_total t)
