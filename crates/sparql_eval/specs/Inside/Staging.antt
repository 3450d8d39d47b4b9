-- Graphs that are emptied, triples that come from one into another, and operations with a pattern.
use Rattle.std.specs.Prelude.{Bool, true, false}
use Rattle.rdf_terms.specs.declared.quad.GraphName.{GraphName}
use Rattle.rdf_dataset.specs.State.{State}
use Rattle.sparql_eval.specs.Graphs.{without_graph, without_name_of}
use Rattle.sparql_eval.specs.Operations.{added, cleared, copied, dropped, moved}
use Rattle.sparql_eval.specs.declared.graphs.Names.{Names}
use Rattle.sparql_eval.specs.declared.graphs.Names.TheVariants.{Stay, Go}
use Rattle.sparql_eval.specs.declared.graphs.Transfer.{Transfer}
use Rattle.sparql_eval.specs.declared.graphs.Transfer.TheVariants.{Copy, Move, Add}
use Rattle.sparql_trees.specs.declared.operation.GraphRefAll.{GraphRefAll}
use Rattle.sparql_trees.specs.declared.operation.Operation.{Operation}
use Rattle.sparql_trees.specs.declared.operation.Operation.TheVariants as operation

-- a graph is emptied
abbrev pub emptied : State → GraphName → State
emptied s g = record { quads = without_graph s.quads g; names = s.names; next = s.next }

-- a graph is emptied and its name goes
abbrev pub gone : State → GraphName → State
gone s g = record { quads = without_graph s.quads g; names = without_name_of s.names g; next = s.next }

-- a graph is emptied, and its name stays or goes
abbrev pub one_emptied : Names → State → GraphName → State
one_emptied Stay s g = emptied s g
one_emptied Go s g = gone s g

-- the graphs are emptied, and their names stay or go
abbrev pub graphs_emptied : Names → State → GraphRefAll → State
graphs_emptied Stay s graphs = cleared s graphs
graphs_emptied Go s graphs = dropped s graphs

-- COPY, MOVE or ADD of one graph to another
abbrev pub transferred : Transfer → State → GraphName → GraphName → State
transferred Copy s g h = copied s g h
transferred Move s g h = moved s g h
transferred Add s g h = added s g h

-- the operation has a pattern, so that its solutions tell what it does
abbrev pub has_pattern : Operation → Bool
has_pattern (operation.InsertData brought) = false
has_pattern (operation.DeleteData quads) = false
has_pattern (operation.Modify m) = true
has_pattern (operation.Create silent graph) = false
has_pattern (operation.Clear silent graphs) = false
has_pattern (operation.Drop silent graphs) = false
has_pattern (operation.Copy silent from to) = false
has_pattern (operation.Move silent from to) = false
has_pattern (operation.Add silent from to) = false
