use Rattle.rdf_terms.specs.OrderLaws.{term_cmp_total, graph_cmp_total, quad_cmp_total, term_cmp-IsAntisymmetric, graph_cmp-IsAntisymmetric, quad_cmp-IsAntisymmetric}
use Rattle.rdf_terms.proofs.laws.orders_are_total.Goals as goal

pub returns : goal.returns
returns c = record { terms = term_cmp_total; terms_apart = term_cmp-IsAntisymmetric; graphs = graph_cmp_total; graphs_apart = graph_cmp-IsAntisymmetric; quads = quad_cmp_total; quads_apart = quad_cmp-IsAntisymmetric }
