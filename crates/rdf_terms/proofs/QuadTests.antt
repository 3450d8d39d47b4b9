-- The parts of a quad's test.
use Rattle.std.proofs.Common.{◌≡◌, true, false, not}
use Rattle.std.proofs.lemmas.Bool.{and_parts, not-true}
use Rattle.rdf_terms.specs.Quad.{may_name_graph, has_right_kinds, is_graph, is_quad}
use Rattle.rdf_terms.specs.Term.{is_term, is_literal_term, is_iri_term}
use Rattle.rdf_terms.specs.declared.quad.Quad.{Quad}

pub record QuadTests (q : Quad) : Type 0 where
  pub right_kinds : has_right_kinds q ≡ true
  pub graph_kind : may_name_graph q.graph ≡ true
  pub subject_kind : is_literal_term q.subject ≡ false
  pub predicate_kind : is_iri_term q.predicate ≡ true
  pub graph : is_graph q.graph ≡ true
  pub subject : is_term q.subject ≡ true
  pub predicate : is_term q.predicate ≡ true
  pub object : is_term q.object ≡ true

pub quad_tests : (q : Quad) → is_quad q ≡ true → QuadTests q
quad_tests q h =
    let all = and_parts (has_right_kinds q) _ h in
    let kinds = and_parts (may_name_graph q.graph) _ all.0 in
    let places = and_parts (not (is_literal_term q.subject)) (is_iri_term q.predicate) kinds.1 in
    let graph = and_parts (is_graph q.graph) _ all.1 in
    let subject = and_parts (is_term q.subject) _ graph.1 in
    let rest = and_parts (is_term q.predicate) (is_term q.object) subject.1 in
    record {
      right_kinds = all.0;
      graph_kind = kinds.0;
      subject_kind = not-true (is_literal_term q.subject) places.0;
      predicate_kind = places.1;
      graph = graph.0;
      subject = subject.0;
      predicate = rest.0;
      object = rest.1;
    }
