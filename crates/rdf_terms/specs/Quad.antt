-- What a quad is, and which terms may stand in its places (RDF 1.1 Concepts, sections 3.1 and 4).
use Rattle.std.specs.Prelude.{Bool, true, not, ◌&&◌}
use Rattle.rdf_terms.specs.Term.{is_term, is_literal_term, is_iri_term}
use Rattle.rdf_terms.specs.declared.term.Term.{Term}
use Rattle.rdf_terms.specs.declared.quad.GraphName.{GraphName}
use Rattle.rdf_terms.specs.declared.quad.GraphName.TheVariants.{Default, Named}

-- a triple in a graph
pub record QuadParts : Type 0 where
  pub graph : GraphName
  pub subject : Term
  pub predicate : Term
  pub object : Term

-- IRIs and blank nodes name graphs
abbrev pub may_name_graph : GraphName → Bool
may_name_graph Default = true
may_name_graph (Named t) = not (is_literal_term t)

-- the subject is no literal, the predicate an IRI, the object any term, and the graph's name an IRI or a blank node
abbrev pub has_right_kinds : QuadParts → Bool
has_right_kinds q = may_name_graph q.graph && (not (is_literal_term q.subject) && is_iri_term q.predicate)

abbrev pub is_graph : GraphName → Bool
is_graph Default = true
is_graph (Named t) = is_term t

-- four terms in their places, each of a right kind
abbrev pub is_quad : QuadParts → Bool
is_quad q = has_right_kinds q && (is_graph q.graph && (is_term q.subject && (is_term q.predicate && is_term q.object)))
