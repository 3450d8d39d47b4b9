-- What the instances of a template are, place by place (SPARQL 1.1 Update, section 3.1.3).
use Rattle.std.specs.Prelude.{◌≡◌, ℕ, List, Option, Some, None}
use Rattle.rdf_terms.specs.Quad.{QuadParts}
use Rattle.rdf_terms.specs.declared.quad.GraphName.TheVariants.{Default, Named}
use Rattle.rdf_terms.specs.declared.term.Term.{Term}
use Rattle.rdf_terms.specs.declared.term.Term.TheVariants.{Iri}
use Rattle.sparql_eval.specs.Operations.{home_of}
use Rattle.sparql_eval.specs.Templates.{graph_under, instance, name_under, term_under}
use Rattle.sparql_trees.specs.declared.pattern.VarOrIri.TheVariants as name
use Rattle.sparql_trees.specs.declared.template.QuadPattern.{QuadPattern}
use Rattle.sparql_values.specs.Mapping.{Variables, Mapping, value_of}

-- where the quads of a template stand
pub record GraphTable : Type 0 where
  -- outside GRAPH: in the default graph, or in the graph of WITH
  pub outside : (variables : Variables) (m : Mapping) → graph_under variables (home_of None) m None ≡ Some Default
  pub with_graph : (variables : Variables) (m : Mapping) (iri : List ℕ) → graph_under variables (home_of (Some iri)) m None ≡ Some (Named (Iri iri))
  -- inside `GRAPH <iri> { .. }`: in that one, whatever WITH names
  pub named : (variables : Variables) (m : Mapping) (with : Option (List ℕ)) (iri : List ℕ) →
      graph_under variables (home_of with) m (Some (name.Iri iri)) ≡ Some (Named (Iri iri))
  -- inside `GRAPH ?v { .. }`: in that which the solution binds, and nowhere where it binds none
  pub bound : (variables : Variables) (m : Mapping) (with : Option (List ℕ)) (variable : List ℕ) (t : Term) → value_of variables m variable ≡ Some t →
      graph_under variables (home_of with) m (Some (name.Variable variable)) ≡ Some (Named t)
  pub unbound : (variables : Variables) (m : Mapping) (with : Option (List ℕ)) (variable : List ℕ) → value_of variables m variable ≡ None →
      graph_under variables (home_of with) m (Some (name.Variable variable)) ≡ None

-- each place of an instance is what the quad pattern has there under the solution
pub record IsInstance (variables : Variables) (with : Option (List ℕ)) (blanks first : ℕ) (m : Mapping) (q : QuadPattern) (quad : QuadParts) : Type 0 where
  pub graph : graph_under variables (home_of with) m q.graph ≡ Some quad.graph
  pub subject : term_under variables blanks first m q.triple.subject ≡ Some quad.subject
  pub predicate : name_under variables m q.triple.predicate ≡ Some quad.predicate
  pub object : term_under variables blanks first m q.triple.object ≡ Some quad.object

abbrev pub InstancesAreOfTheirTemplate : Type 0
InstancesAreOfTheirTemplate = (variables : Variables) (with : Option (List ℕ)) (blanks first : ℕ) (m : Mapping) (q : QuadPattern) (quad : QuadParts) →
    instance variables (home_of with) blanks first m q ≡ Some quad → IsInstance variables with blanks first m q quad
