-- What an operation makes of a state, or why it is refused (SPARQL 1.1 Update, sections 3.1, 3.2 and 4).
use Rattle.std.specs.Prelude.{◌≡◌, ℕ, ◌+◌, ◌*◌, Bool, false, not, nat_lt, List, [], ◌∷◌, length, Option, None, Some, Result, Ok, Err, if◌then◌else◌}
use Rattle.std.specs.FinSet as set
use Rattle.rdf_terms.specs.Quad.{QuadParts}
use Rattle.rdf_terms.specs.declared.quad.GraphName.{GraphName}
use Rattle.rdf_terms.specs.declared.quad.GraphName.TheVariants.{Default, Named}
use Rattle.rdf_terms.specs.declared.term.Term.TheVariants.{Iri}
use Rattle.rdf_dataset.specs.State.{State, last_number, with_blanks, with_graph, with_name}
use Rattle.rdf_dataset.specs.Insertion.{with_all, with_data}
use Rattle.sparql_algebra.specs.Sorted.{sorted_solutions}
use Rattle.sparql_eval.specs.Graphs.{graph_of, is_meant, is_there, quads_in, quads_of, same_graph, without_graph, without_name_of}
use Rattle.sparql_eval.specs.declared.fault.ApplyFault.{ApplyFault}
use Rattle.sparql_eval.specs.declared.fault.ApplyFault.TheVariants.{MissingGraph, GraphExists, BlankNumbers, NoMemory}
use Rattle.sparql_eval.specs.Templates.{all_instances}
use Rattle.sparql_trees.specs.Visible.{visible}
use Rattle.sparql_trees.specs.declared.operation.GraphRefAll.{GraphRefAll}
use Rattle.sparql_trees.specs.declared.operation.GraphRefAll.TheVariants as some
use Rattle.sparql_trees.specs.declared.operation.Operation.{Operation}
use Rattle.sparql_trees.specs.declared.operation.Operation.TheVariants.{InsertData, DeleteData, Modify, Create, Clear, Drop, Copy, Move, Add}
use Rattle.sparql_trees.specs.declared.template.Modify.{Modify as Modification}
use Rattle.sparql_trees.specs.declared.template.QuadPattern.{QuadPattern}
use Rattle.sparql_values.specs.Mapping.{Mapping}

-- ---- effects

-- the quads are taken away; the names of their graphs stay
abbrev pub without_all : State → List QuadParts → State
without_all s quads = record { quads = set.difference s.quads (set.from_list quads); names = s.names; next = s.next }

-- the graphs are emptied; their names stay
abbrev pub cleared : State → GraphRefAll → State
cleared s graphs = record { quads = set.retain s.quads (λ q. not (is_meant graphs q.graph)); names = s.names; next = s.next }

-- the graphs are emptied and their names go
abbrev pub dropped : State → GraphRefAll → State
dropped s graphs = record {
  quads = set.retain s.quads (λ q. not (is_meant graphs q.graph));
  names = set.retain s.names (λ n. not (is_meant graphs (Named n)));
  next = s.next;
}

-- the second graph has the triples of the first and no others; it is there, even empty
abbrev pub copied : State → GraphName → GraphName → State
copied s g h = record {
  quads = set.union (without_graph s.quads h) (quads_in h (quads_of s.quads g));
  names = with_graph s.names h;
  next = s.next;
}

-- as copied, and the first graph goes; the default one is only emptied
abbrev pub moved : State → GraphName → GraphName → State
moved s g h = record {
  quads = without_graph (copied s g h).quads g;
  names = without_name_of (copied s g h).names g;
  next = s.next;
}

-- the second graph has the triples of the first beside its own; it is there, even empty
abbrev pub added : State → GraphName → GraphName → State
added s g h = record {
  quads = set.union s.quads (quads_in h (quads_of s.quads g));
  names = with_graph s.names h;
  next = s.next;
}

-- a graph onto itself: nothing changes
abbrev pub onto : GraphName → GraphName → State → State → State
onto g h s t = if same_graph g h then s else t

-- ---- DELETE/INSERT (section 3.1.3)

-- the default graph of the pattern and of both templates: that of WITH, be it there or not
abbrev pub home_of : Option (List ℕ) → GraphName
home_of None = Default
home_of (Some iri) = Named (Iri iri)

-- the solutions of the pattern in the state before the operation
abbrev pub solutions_of : State → Modification → List Mapping
solutions_of s m = sorted_solutions m.pattern (home_of m.with) s

-- how many new blank nodes there are: each solution has as many as the INSERT template, one that gives no quad too
abbrev pub blanks_of : State → Modification → ℕ
blanks_of s m = length (solutions_of s m) * m.insert.blanks

-- the instances of quad patterns under all solutions, the new blank nodes numbered on from the counter
abbrev pub instances_of : State → Modification → ℕ → List QuadPattern → List QuadParts
instances_of s m blanks quads = all_instances (visible m.pattern) (home_of m.with) blanks quads s.next (solutions_of s m)

-- those of the DELETE template, which has no blank nodes
abbrev pub deletions : State → Modification → List QuadParts
deletions s m = instances_of s m 0 m.delete.quads

abbrev pub insertions : State → Modification → List QuadParts
insertions s m = instances_of s m m.insert.blanks m.insert.quads

-- all deletions are done before any insertion
abbrev pub modified : State → Modification → State
modified s m = with_all (with_blanks (without_all s (deletions s m)) (blanks_of s m)) (insertions s m)

-- ---- operations

-- what an operation leaves where nothing stands against it
abbrev pub after : State → Operation → State
after s (InsertData brought) = with_data s brought.quads brought.blanks
after s (DeleteData quads) = without_all s quads
after s (Modify m) = modified s m
after s (Create silent graph) = with_name s (Iri graph)
after s (Clear silent graphs) = cleared s graphs
after s (Drop silent graphs) = dropped s graphs
after s (Copy silent from to) = onto (graph_of from) (graph_of to) s (copied s (graph_of from) (graph_of to))
after s (Move silent from to) = onto (graph_of from) (graph_of to) s (moved s (graph_of from) (graph_of to))
after s (Add silent from to) = onto (graph_of from) (graph_of to) s (added s (graph_of from) (graph_of to))

-- ---- refusals

abbrev pub unless : Bool → ApplyFault → Option ApplyFault
unless right fault = if right then None else Some fault

-- CLEAR and DROP of one graph want it to be there
abbrev pub missing_of : State → GraphRefAll → Option ApplyFault
missing_of s (some.Graph iri) = unless (set.contains s.names (Iri iri)) MissingGraph
missing_of s some.Default = None
missing_of s some.Named = None
missing_of s some.All = None

-- what stands against an operation
abbrev pub obstacle : State → Operation → Option ApplyFault
-- the counter goes no further than the last number
obstacle s (InsertData brought) = unless (not (nat_lt last_number (s.next + brought.blanks))) BlankNumbers
obstacle s (DeleteData quads) = None
obstacle s (Modify m) = unless (not (nat_lt last_number (s.next + blanks_of s m))) BlankNumbers
obstacle s (Create silent graph) = unless (not (set.contains s.names (Iri graph))) GraphExists
obstacle s (Clear silent graphs) = missing_of s graphs
obstacle s (Drop silent graphs) = missing_of s graphs
obstacle s (Copy silent from to) = unless (is_there s (graph_of from)) MissingGraph
obstacle s (Move silent from to) = unless (is_there s (graph_of from)) MissingGraph
obstacle s (Add silent from to) = unless (is_there s (graph_of from)) MissingGraph

-- with SILENT an operation that something stands against changes nothing
abbrev pub is_silent : Operation → Bool
is_silent (InsertData brought) = false
is_silent (DeleteData quads) = false
is_silent (Modify m) = false
is_silent (Create silent graph) = silent
is_silent (Clear silent graphs) = silent
is_silent (Drop silent graphs) = silent
is_silent (Copy silent from to) = silent
is_silent (Move silent from to) = silent
is_silent (Add silent from to) = silent

-- ---- operations and requests

-- the state, or the refusal where something stands against the operation
abbrev pub answer : State → State → Bool → Option ApplyFault → Result State ApplyFault
answer s t silent None = Ok t
answer s t silent (Some fault) = if silent then Ok s else Err fault

abbrev pub step : State → Operation → Result State ApplyFault
step s operation = answer s (after s operation) (is_silent operation) (obstacle s operation)

-- the operation leads from s to t
abbrev pub Leads : State → Operation → State → Type 0
Leads s operation t = step s operation ≡ Ok t

abbrev pub Refuses : State → Operation → ApplyFault → Type 0
Refuses s operation fault = step s operation ≡ Err fault

abbrev pub go_on : Result State ApplyFault → (State → Result State ApplyFault) → Result State ApplyFault
go_on (Ok t) next = next t
go_on (Err fault) next = Err fault

-- the operations act in order; the first refusal is the answer
abbrev pub steps : State → List Operation → Result State ApplyFault
steps s [] = Ok s
steps s (operation ∷ operations) = go_on (step s operation) (λ t. steps t operations)

-- ---- what applying operations answers

-- the refusal, or want of memory
abbrev pub Tells : Result State ApplyFault → ApplyFault → Type 0
Tells answers (NoMemory refused) = Unit {0}
Tells answers fault = answers ≡ Err fault
