-- The graphs that an operation names, and their triples (SPARQL 1.1 Update, sections 3 and 4).
use Rattle.std.specs.Prelude.{Bool, true, not, map}
use Rattle.std.specs.FinSet as set
use Rattle.std.specs.Ordering.{eq_by_cmp}
use Rattle.rdf_terms.specs.Order.{graph_cmp}
use Rattle.rdf_terms.specs.Quad.{QuadParts}
use Rattle.rdf_terms.specs.declared.quad.GraphName.{GraphName}
use Rattle.rdf_terms.specs.declared.quad.GraphName.TheVariants as name
use Rattle.rdf_terms.specs.declared.term.Term.TheVariants.{Iri}
use Rattle.rdf_dataset.specs.State.{State, Quads, Names}
pub use Rattle.rdf_dataset.specs.State.{is_default}
use Rattle.sparql_trees.specs.declared.operation.GraphOrDefault.{GraphOrDefault}
use Rattle.sparql_trees.specs.declared.operation.GraphOrDefault.TheVariants as one
use Rattle.sparql_trees.specs.declared.operation.GraphRefAll.{GraphRefAll}
use Rattle.sparql_trees.specs.declared.operation.GraphRefAll.TheVariants as some

-- ---- which graphs

abbrev pub same_graph : GraphName → GraphName → Bool
same_graph g h = eq_by_cmp graph_cmp g h

-- the graph that COPY, MOVE and ADD name
abbrev pub graph_of : GraphOrDefault → GraphName
graph_of one.Default = name.Default
graph_of (one.Graph iri) = name.Named (Iri iri)

-- the graphs that CLEAR and DROP name
abbrev pub is_meant : GraphRefAll → GraphName → Bool
is_meant (some.Graph iri) g = same_graph (name.Named (Iri iri)) g
is_meant some.Default g = is_default g
is_meant some.Named g = not (is_default g)
is_meant some.All g = true

-- the default graph is always there, and a named one where its name is
abbrev pub is_there : State → GraphName → Bool
is_there s name.Default = true
is_there s (name.Named n) = set.contains s.names n

-- ---- the quads of a graph

-- the triples of a graph, as its quads
abbrev pub quads_of : Quads → GraphName → Quads
quads_of quads g = set.retain quads (λ q. same_graph g q.graph)

-- the quads of the other graphs
abbrev pub without_graph : Quads → GraphName → Quads
without_graph quads g = set.retain quads (λ q. not (same_graph g q.graph))

-- the same triple in another graph
abbrev pub quad_in : GraphName → QuadParts → QuadParts
quad_in g q = record { graph = g; subject = q.subject; predicate = q.predicate; object = q.object }

-- the same triples in another graph
abbrev pub quads_in : GraphName → Quads → Quads
quads_in g quads = set.from_list (map (quad_in g) (set.items quads))

-- ---- the names of graphs

-- the default graph has no name to take away
abbrev pub without_name_of : Names → GraphName → Names
without_name_of names name.Default = names
without_name_of names (name.Named n) = set.remove names n
