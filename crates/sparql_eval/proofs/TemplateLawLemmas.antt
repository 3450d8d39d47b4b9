-- The instances of a template, place by place.
use Rattle.std.proofs.Common.{◌≡◌, ap, refl, Bool, true, false, Option, Some, None, if◌then◌else◌}
use Rattle.std.proofs.lemmas.Option.{same_Some}
use Rattle.std.specs.Option.{option_map}
use Rattle.rdf_terms.specs.Quad.{QuadParts, has_right_kinds}
use Rattle.rdf_terms.specs.declared.quad.GraphName.{GraphName}
use Rattle.rdf_terms.specs.declared.quad.GraphName.TheVariants.{Named}
use Rattle.rdf_terms.specs.declared.term.Term.{Term}
use Rattle.sparql_eval.specs.Operations.{home_of}
use Rattle.sparql_eval.specs.TemplateLaws.{GraphTable, InstancesAreOfTheirTemplate}
use Rattle.sparql_eval.specs.Templates.{graph_under, name_under, term_under}
use Rattle.sparql_trees.specs.Quads.{quad_by}

pub graph_table : GraphTable
graph_table = record {
  outside = λ variables m. refl;
  with_graph = λ variables m iri. refl;
  named = λ variables m with iri. refl;
  bound = λ variables m with variable t e. ap (option_map Named) e;
  unbound = λ variables m with variable e. ap (option_map Named) e;
}

-- the parts of a quad are those that it was made of
record IsOf (g : Option GraphName) (s p o : Option Term) (quad : QuadParts) : Type 0 where
  graph : g ≡ Some quad.graph
  subject : s ≡ Some quad.subject
  predicate : p ≡ Some quad.predicate
  object : o ≡ Some quad.object

abbrev parts : GraphName → Term → Term → Term → QuadParts
parts g s p o = record { graph = g; subject = s; predicate = p; object = o }

of_parts : (g : GraphName) (s p o : Term) (quad : QuadParts) → quad_by (Some g) (Some s) (Some p) (Some o) ≡ Some quad → IsOf (Some g) (Some s) (Some p) (Some o) quad
of_parts g s p o quad e = by (has_right_kinds (parts g s p o)) e
  where
    by : (b : Bool) → if◌then◌else◌ {A = Option QuadParts} b (Some (parts g s p o)) None ≡ Some quad → IsOf (Some g) (Some s) (Some p) (Some o) quad
    by true e =
        let same : parts g s p o ≡ quad = same_Some _ _ e in
        record {
          graph = ap (λ (q : QuadParts). Some q.graph) same;
          subject = ap (λ (q : QuadParts). Some q.subject) same;
          predicate = ap (λ (q : QuadParts). Some q.predicate) same;
          object = ap (λ (q : QuadParts). Some q.object) same;
        }
    by false e = absurd (cc e)

made_of : (g : Option GraphName) (s p o : Option Term) (quad : QuadParts) → quad_by g s p o ≡ Some quad → IsOf g s p o quad
made_of (Some g) (Some s) (Some p) (Some o) quad e = of_parts g s p o quad e
made_of (Some g) (Some s) (Some p) None quad e = absurd (cc e)
made_of (Some g) (Some s) None o quad e = absurd (cc e)
made_of (Some g) None p o quad e = absurd (cc e)
made_of None s p o quad e = absurd (cc e)

pub instances_are_of_their_template : InstancesAreOfTheirTemplate
instances_are_of_their_template variables with blanks first m q quad e =
    let made = made_of (graph_under variables (home_of with) m q.graph) (term_under variables blanks first m q.triple.subject)
    (name_under variables m q.triple.predicate) (term_under variables blanks first m q.triple.object) quad e in
    record { graph = made.graph; subject = made.subject; predicate = made.predicate; object = made.object }
