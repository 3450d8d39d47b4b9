-- Quads that are gathered in a list, and what a store holds of them: a dataset's quads and the names of its graphs (RDF 1.1 Concepts, section 4).
use Rattle.std.specs.Prelude.{List, [], ◌∷◌}
use Rattle.std.specs.List.{flat_map}
use Rattle.std.specs.FinSet as set
use Rattle.rdf_terms.specs.declared.term.Term.{Term}
use Rattle.rdf_terms.specs.declared.quad.GraphName.{GraphName}
use Rattle.rdf_terms.specs.declared.quad.GraphName.TheVariants.{Default, Named}
use Rattle.rdf_terms.specs.Quad.{QuadParts}
use Rattle.rdf_store.specs.Stored.{Stored}

-- the name of a graph, where it has one
abbrev pub graph_names : GraphName → List Term
graph_names Default = []
graph_names (Named name) = name ∷ []

abbrev pub names_in : QuadParts → List Term
names_in q = graph_names q.graph

-- these quads, and the names of their graphs
abbrev pub gathered : List QuadParts → Stored
gathered quads = record { quads = set.from_list quads; names = set.from_list (flat_map names_in quads) }
