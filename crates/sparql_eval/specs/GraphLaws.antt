-- What the operations on graphs mean, do and want, graph by graph (SPARQL 1.1 Update, sections 3.1.3 and 3.2).
use Rattle.std.specs.Prelude.{◌≡◌, ℕ, Bool, true, false, not, ◌&&◌, List, None, Some}
use Rattle.std.specs.FinSet as set
use Rattle.rdf_terms.specs.Quad.{QuadParts}
use Rattle.rdf_terms.specs.declared.quad.GraphName.{GraphName}
use Rattle.rdf_terms.specs.declared.quad.GraphName.TheVariants.{Default, Named}
use Rattle.rdf_terms.specs.declared.term.Term.{Term}
use Rattle.rdf_terms.specs.declared.term.Term.TheVariants.{Iri}
use Rattle.rdf_dataset.specs.State.{State}
use Rattle.sparql_algebra.specs.Sorted.{sorted_solutions}
use Rattle.sparql_eval.specs.Graphs.{graph_of, is_meant, is_there, same_graph}
use Rattle.sparql_eval.specs.Operations.{Refuses, after, solutions_of}
use Rattle.sparql_eval.specs.declared.fault.ApplyFault.TheVariants.{GraphExists, MissingGraph}
use Rattle.sparql_trees.specs.declared.operation.GraphOrDefault.{GraphOrDefault}
use Rattle.sparql_trees.specs.declared.operation.GraphOrDefault.TheVariants as one
use Rattle.sparql_trees.specs.declared.operation.GraphRefAll.{GraphRefAll}
use Rattle.sparql_trees.specs.declared.operation.GraphRefAll.TheVariants as some
use Rattle.sparql_trees.specs.declared.operation.Operation.TheVariants.{Create, Clear, Drop, Copy, Move, Add}
use Rattle.sparql_trees.specs.declared.template.Modify.{Modify as Modification}

-- the graphs that CLEAR and DROP mean: one, the default one alone, the named ones alone, or all
pub record GraphsMeant : Type 0 where
  pub one : (iri : List ℕ) → is_meant (some.Graph iri) (Named (Iri iri)) ≡ true
  pub one_alone : (iri : List ℕ) → is_meant (some.Graph iri) Default ≡ false
  pub default : is_meant some.Default Default ≡ true
  pub default_alone : (name : Term) → is_meant some.Default (Named name) ≡ false
  pub named : (name : Term) → is_meant some.Named (Named name) ≡ true
  pub named_alone : is_meant some.Named Default ≡ false
  pub all : (g : GraphName) → is_meant some.All g ≡ true

-- what an operation leaves where nothing stands against it
pub record GraphsLeft : Type 0 where
  -- CREATE: the graph is there, and each quad as it was
  pub created : (s : State) (silent : Bool) (iri : List ℕ) → set.contains (after s (Create silent iri)).names (Iri iri) ≡ true
  pub created_empty : (s : State) (silent : Bool) (iri : List ℕ) → (after s (Create silent iri)).quads ≡ s.quads
  -- CLEAR: the graphs that are meant have no quad, and are there all the same
  pub cleared : (s : State) (silent : Bool) (graphs : GraphRefAll) (q : QuadParts)
      → set.contains (after s (Clear silent graphs)).quads q ≡ (set.contains s.quads q && not (is_meant graphs q.graph))
  pub cleared_there : (s : State) (silent : Bool) (graphs : GraphRefAll) → (after s (Clear silent graphs)).names ≡ s.names
  -- DROP: they have no quad, and are there no more
  pub dropped : (s : State) (silent : Bool) (graphs : GraphRefAll) (q : QuadParts)
      → set.contains (after s (Drop silent graphs)).quads q ≡ (set.contains s.quads q && not (is_meant graphs q.graph))
  pub dropped_gone : (s : State) (silent : Bool) (graphs : GraphRefAll) (name : Term)
      → set.contains (after s (Drop silent graphs)).names name ≡ (set.contains s.names name && not (is_meant graphs (Named name)))
  -- COPY and ADD: the second graph is there, though the first is empty
  pub copied_there : (s : State) (silent : Bool) (from : GraphOrDefault) (iri : List ℕ) → same_graph (graph_of from) (Named (Iri iri)) ≡ false
      → is_there (after s (Copy silent from (one.Graph iri))) (Named (Iri iri)) ≡ true
  pub added_there : (s : State) (silent : Bool) (from : GraphOrDefault) (iri : List ℕ) → same_graph (graph_of from) (Named (Iri iri)) ≡ false
      → is_there (after s (Add silent from (one.Graph iri))) (Named (Iri iri)) ≡ true
  -- ADD takes no quad away
  pub added : (s : State) (silent : Bool) (from to : GraphOrDefault) (q : QuadParts) → set.contains s.quads q ≡ true
      → set.contains (after s (Add silent from to)).quads q ≡ true

-- when an operation that isn't SILENT is refused
pub record GraphsWanted : Type 0 where
  -- CREATE wants that the graph isn't there,
  pub create : (s : State) (iri : List ℕ) → set.contains s.names (Iri iri) ≡ true → Refuses s (Create false iri) GraphExists
  -- CLEAR and DROP that the one that they name is,
  pub clear : (s : State) (iri : List ℕ) → set.contains s.names (Iri iri) ≡ false → Refuses s (Clear false (some.Graph iri)) MissingGraph
  pub drop : (s : State) (iri : List ℕ) → set.contains s.names (Iri iri) ≡ false → Refuses s (Drop false (some.Graph iri)) MissingGraph
  -- COPY, MOVE and ADD that the first is
  pub copy : (s : State) (from to : GraphOrDefault) → is_there s (graph_of from) ≡ false → Refuses s (Copy false from to) MissingGraph
  pub move : (s : State) (from to : GraphOrDefault) → is_there s (graph_of from) ≡ false → Refuses s (Move false from to) MissingGraph
  pub add : (s : State) (from to : GraphOrDefault) → is_there s (graph_of from) ≡ false → Refuses s (Add false from to) MissingGraph

-- where the pattern of DELETE/INSERT is looked for: in the default graph, or in the graph of WITH
pub record PatternsLookedFor : Type 0 where
  pub without : (s : State) (m : Modification) → m.with ≡ None → solutions_of s m ≡ sorted_solutions m.pattern Default s
  pub with_graph : (s : State) (m : Modification) (iri : List ℕ) → m.with ≡ Some iri → solutions_of s m ≡ sorted_solutions m.pattern (Named (Iri iri)) s
