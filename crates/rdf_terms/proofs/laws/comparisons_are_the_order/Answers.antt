use Rattle.std.proofs.Common.{◌≡◌, subst, true}
use Rattle.rdf_terms.specs.OrderLaws.{iri_order, literal_order, term_order, graph_order, quad_order}
use Rattle.rdf_terms.proofs.TermEq.{iri_eq, iri_eq-same, iri_eq-own, literal_eq, literal_eq-same, literal_eq-own, term_eq, term_eq-same, term_eq-own}
use Rattle.rdf_terms.proofs.QuadLemmas.{graph_eq-same, graph_eq-own, quad_eq-same, quad_eq-own}
use Rattle.rdf_terms.specs.contracts.quad.GraphNamePartialEq.TheImpl as of_graphs
use Rattle.rdf_terms.specs.contracts.quad.QuadPartialEq.TheImpl as of_quads
use Rattle.rdf_terms.proofs.laws.comparisons_are_the_order.Goals as goal

pub returns : goal.returns
returns c = record {
  iris = iri_order;
  literals = literal_order;
  terms = term_order;
  graphs = graph_order;
  quads = quad_order;
  same_iris = λ a b. (λ h. iri_eq-same a b h, λ e. subst (λ q. iri_eq a q ≡ true) e (iri_eq-own a));
  same_literals = λ a b. (λ h. literal_eq-same a b h, λ e. subst (λ q. literal_eq a q ≡ true) e (literal_eq-own a));
  same_terms = λ a b. (λ h. term_eq-same a b h, λ e. subst (λ q. term_eq a q ≡ true) e (term_eq-own a));
  same_graphs = λ a b. (λ h. graph_eq-same a b h, λ e. subst (λ q. (of_graphs.ghosts).eq a q ≡ true) e (graph_eq-own a));
  same_quads = λ a b. (λ h. quad_eq-same a b h, λ e. subst (λ q. (of_quads.ghosts).eq a q ≡ true) e (quad_eq-own a));
}
