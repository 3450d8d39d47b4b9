-- The quads that templates stand for: each solution of a pattern gives instances of its own (SPARQL 1.1 Update, sections 3.1.3 and 4.2;
-- SPARQL 1.1 Query, section 16.2).
use Rattle.std.specs.Prelude.{ℕ, ◌+◌, nat_lt, List, [], ◌∷◌, ◌++◌, Option, Some, None, filter_map, if◌then◌else◌}
use Rattle.std.specs.Option.{option_map}
use Rattle.rdf_terms.specs.Quad.{QuadParts}
use Rattle.rdf_terms.specs.declared.quad.GraphName.{GraphName}
use Rattle.rdf_terms.specs.declared.quad.GraphName.TheVariants.{Named}
use Rattle.rdf_terms.specs.declared.term.Term.{Term}
use Rattle.rdf_terms.specs.declared.term.Term.TheVariants.{Blank, Iri, Literal}
use Rattle.sparql_trees.specs.Quads.{quad_by}
use Rattle.sparql_trees.specs.declared.pattern.VarOrIri.{VarOrIri}
use Rattle.sparql_trees.specs.declared.pattern.VarOrIri.TheVariants as name
use Rattle.sparql_trees.specs.declared.pattern.VarOrTerm.{VarOrTerm}
use Rattle.sparql_trees.specs.declared.pattern.VarOrTerm.TheVariants as place
use Rattle.sparql_trees.specs.declared.template.QuadPattern.{QuadPattern}
use Rattle.sparql_values.specs.Mapping.{Variables, Mapping, value_of}

-- ---- terms under a solution

-- blank node j of a template is the new one first + j
abbrev pub new_blank : ℕ → ℕ → ℕ → Option Term
new_blank blanks first number = if nat_lt number blanks then Some (Blank (first + number)) else None

-- an IRI or a literal stands for itself; no template names a blank node of the dataset
abbrev pub constant : Term → Option Term
constant (Blank number) = None
constant (Iri iri) = Some (Iri iri)
constant (Literal l) = Some (Literal l)

-- an unbound variable stands for nothing
abbrev pub term_under : Variables → ℕ → ℕ → Mapping → VarOrTerm → Option Term
term_under variables blanks first m (place.Variable variable) = value_of variables m variable
term_under variables blanks first m (place.Hidden number) = new_blank blanks first number
term_under variables blanks first m (place.Term t) = constant t

abbrev pub name_under : Variables → Mapping → VarOrIri → Option Term
name_under variables m (name.Variable variable) = value_of variables m variable
name_under variables m (name.Iri iri) = Some (Iri iri)

-- a quad pattern outside GRAPH lies in the operation's default graph
abbrev pub graph_under : Variables → GraphName → Mapping → Option VarOrIri → Option GraphName
graph_under variables home m None = Some home
graph_under variables home m (Some graph) = option_map Named (name_under variables m graph)

-- ---- instances

-- in an operation whose pattern has these variables, and which has this default graph, for a template with so many blank nodes
module _ (variables : Variables) (home : GraphName) (blanks : ℕ) where
  -- the instance of a quad pattern under a solution, if there is one; the new blank nodes are numbered from `first`
  abbrev pub instance : ℕ → Mapping → QuadPattern → Option QuadParts
  instance first m q =
      quad_by (graph_under variables home m q.graph) (term_under variables blanks first m q.triple.subject)
      (name_under variables m q.triple.predicate) (term_under variables blanks first m q.triple.object)

  -- those of all quad patterns
  abbrev pub instances : List QuadPattern → ℕ → Mapping → List QuadParts
  instances quads first m = filter_map (instance first m) quads

  -- those under one solution after another, each of which has blank nodes of its own
  abbrev pub all_instances : List QuadPattern → ℕ → List Mapping → List QuadParts
  all_instances quads first [] = []
  all_instances quads first (m ∷ ms) = instances quads first m ++ all_instances quads (first + blanks) ms
