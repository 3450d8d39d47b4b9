-- Laws of the operations (SPARQL 1.1 Update, sections 3.1 and 3.2).
use Rattle.std.specs.Prelude.{◌≡◌, ℕ, ◌+◌, ◌*◌, ◌<◌, Bool, true, false, not, ◌||◌, ◌&&◌, List, [], ◌∷◌, ◌++◌, length, map, None, Some, Ok, Err}
use Rattle.std.specs.FinSet as set
use Rattle.std.specs.List.{AllByRecursion, list_any}
use Rattle.std.specs.Ordering.{eq_by_cmp}
use Rattle.rdf_terms.specs.Order.{quad_cmp}
use Rattle.rdf_terms.specs.Quad.{QuadParts}
use Rattle.rdf_terms.specs.declared.quad.GraphName.{GraphName}
use Rattle.rdf_terms.specs.declared.quad.GraphName.TheVariants.{Default, Named}
use Rattle.rdf_terms.specs.declared.term.Term.{Term}
use Rattle.rdf_terms.specs.declared.term.Term.TheVariants.{Blank, Iri}
use Rattle.rdf_dataset.specs.Insertion.{quad_from}
use Rattle.rdf_dataset.specs.State.{State, IsSound, empty_state}
use Rattle.sparql_eval.specs.Graphs.{graph_of, is_meant, is_there, quad_in, quads_of, same_graph}
use Rattle.sparql_eval.specs.Operations.{Leads, blanks_of, deletions, go_on, insertions, is_silent, obstacle, step, steps}
use Rattle.sparql_eval.specs.Templates.{all_instances, instances, term_under}
use Rattle.sparql_eval.specs.declared.fault.ApplyFault.{ApplyFault}
use Rattle.sparql_trees.specs.Data.{DataParts}
use Rattle.sparql_trees.specs.declared.operation.GraphOrDefault.{GraphOrDefault}
use Rattle.sparql_trees.specs.declared.operation.GraphOrDefault.TheVariants as one
use Rattle.sparql_trees.specs.declared.operation.GraphRefAll.{GraphRefAll}
use Rattle.sparql_trees.specs.declared.operation.GraphRefAll.TheVariants as some
use Rattle.sparql_trees.specs.declared.operation.Operation.{Operation}
use Rattle.sparql_trees.specs.declared.operation.Operation.TheVariants.{InsertData, DeleteData, Modify, Create, Clear, Drop, Copy, Move, Add}
use Rattle.sparql_trees.specs.declared.pattern.Pattern.{Pattern}
use Rattle.sparql_trees.specs.declared.pattern.VarOrTerm.TheVariants.{Hidden}
use Rattle.sparql_trees.specs.declared.template.Modify.{Modify as Modification}
use Rattle.sparql_trees.specs.declared.template.QuadPattern.{QuadPattern}
use Rattle.sparql_trees.specs.declared.template.Template.{Template}
use Rattle.sparql_values.specs.Mapping.{Variables, Mapping}

-- a request leads to a state or is refused, never both
abbrev pub OneAnswer : Type 0
OneAnswer = (s t : State) (operations : List Operation) (fault : ApplyFault) → steps s operations ≡ Ok t → ¬ (steps s operations ≡ Err fault)

-- a SILENT operation that something stands against changes nothing
abbrev pub SilentChangesNothing : Type 0
SilentChangesNothing = (s : State) (operation : Operation) (fault : ApplyFault) → is_silent operation ≡ true → obstacle s operation ≡ Some fault → Leads s operation s

-- DROP ALL leaves no quad and no name, and the counter as it was
abbrev pub DropAllEmpties : Type 0
DropAllEmpties = (s : State) (silent : Bool) → Leads s (Drop silent some.All) (empty_state s.next)

-- after COPY the second graph has just the triples of the first
abbrev pub CopyReads : Type 0
CopyReads = (s t : State) (silent : Bool) (from to : GraphOrDefault) (q : QuadParts) → is_there s (graph_of from) ≡ true → Leads s (Copy silent from to) t
    → set.contains t.quads (quad_in (graph_of to) q) ≡ set.contains s.quads (quad_in (graph_of from) q)

-- the graph, as DROP names it
abbrev pub reference : GraphOrDefault → GraphRefAll
reference one.Default = some.Default
reference (one.Graph iri) = some.Graph iri

-- MOVE is COPY and then DROP of the first graph, where it is there and not the second
abbrev pub MoveIsCopyThenDrop : Type 0
MoveIsCopyThenDrop = (s : State) (silent : Bool) (from to : GraphOrDefault) → is_there s (graph_of from) ≡ true → same_graph (graph_of from) (graph_of to) ≡ false
    → step s (Move silent from to) ≡ go_on (step s (Copy silent from to)) (λ t. step t (Drop silent (reference from)))

-- INSERT DATA of quads that are there changes at most the counter
abbrev pub InsertAgain : Type 0
InsertAgain = (s t : State) (brought : DataParts) → IsSound s → AllByRecursion (λ q. set.contains s.quads q ≡ true) (map (quad_from s.next) brought.quads)
    → Leads s (InsertData brought) t → (t.quads ≡ s.quads) × (t.names ≡ s.names)

-- ---- DELETE/INSERT

abbrev pub is_among : List QuadParts → QuadParts → Bool
is_among quads q = list_any (eq_by_cmp quad_cmp q) quads

-- What DELETE/INSERT leaves: a quad is there where it is an insertion, or was there and is no deletion; a graph's name where it was there
-- or an insertion has it; and the counter is past all new blank nodes.
pub record IsModified (s t : State) (m : Modification) : Type 0 where
  pub quads : (q : QuadParts) → set.contains t.quads q ≡ (is_among (insertions s m) q || (set.contains s.quads q && not (is_among (deletions s m) q)))
  pub names : (name : Term) → set.contains t.names name ≡ (set.contains s.names name || list_any (λ q. same_graph (Named name) q.graph) (insertions s m))
  pub next : t.next ≡ s.next + blanks_of s m

abbrev pub ModifyDeletesThenInserts : Type 0
ModifyDeletesThenInserts = (s t : State) (m : Modification) → Leads s (Modify m) t → IsModified s t m

-- where the numbers of solution i begin, and that of blank node j of the template under it
abbrev pub first_of : ℕ → ℕ → ℕ → ℕ
first_of first blanks i = first + i * blanks

abbrev pub number_of : ℕ → ℕ → ℕ → ℕ → ℕ
number_of first blanks i j = first_of first blanks i + j

-- In a template with so many blank nodes, numbered from `first`: the solution behind `before` has its own instances, and has blank node j of
-- the template under its own number, which is no other blank node's and no other solution's.
pub record HasItsOwn (variables : Variables) (home : GraphName) (blanks first : ℕ) (quads : List QuadPattern) (before : List Mapping) (m : Mapping) (behind : List Mapping) : Type 0 where
  pub instances_are : all_instances variables home blanks quads first (before ++ m ∷ behind)
      ≡ all_instances variables home blanks quads first before
      ++ (instances variables home blanks quads (first_of first blanks (length before)) m
      ++ all_instances variables home blanks quads (first_of first blanks (length before + 1)) behind)
  pub blanks_are : (j : ℕ) → j < blanks → term_under variables blanks (first_of first blanks (length before)) m (Hidden j) ≡ Some (Blank (number_of first blanks (length before) j))
  pub apart : (i j k : ℕ) → j < blanks → k < blanks → number_of first blanks (length before) j ≡ number_of first blanks i k → (length before ≡ i) × (j ≡ k)

abbrev pub EachSolutionHasItsOwnBlankNodes : Type 0
EachSolutionHasItsOwnBlankNodes = (variables : Variables) (home : GraphName) (blanks first : ℕ) (quads : List QuadPattern) (before : List Mapping) (m : Mapping) (behind : List Mapping)
    → HasItsOwn variables home blanks first quads before m behind

abbrev pub empty_pattern : Pattern
empty_pattern = record { members = []; filters = [] }

-- INSERT of a template, WHERE { }
abbrev pub inserted_where_nothing : Template → Modification
inserted_where_nothing t = record { with = None; delete = record { quads = []; blanks = 0 }; insert = t; pattern = empty_pattern }

-- its quads as data: no variable has a value
abbrev pub data_of : Template → DataParts
data_of t = record { quads = instances [] Default t.blanks t.quads 0 []; blanks = t.blanks }

-- INSERT DATA of quads is INSERT of them WHERE { }, whose one solution is empty
abbrev pub InsertDataIsModify : Type 0
InsertDataIsModify = (s : State) (t : Template) → step s (InsertData (data_of t)) ≡ step s (Modify (inserted_where_nothing t))

-- ---- other graphs

-- the graphs that an operation may change
abbrev pub writes : State → Operation → GraphName → Bool
writes s (InsertData brought) g = list_any (λ q. same_graph g q.graph) (map (quad_from s.next) brought.quads)
writes s (DeleteData quads) g = list_any (λ q. same_graph g q.graph) quads
writes s (Modify m) g = list_any (λ q. same_graph g q.graph) (deletions s m) || list_any (λ q. same_graph g q.graph) (insertions s m)
writes s (Create silent graph) g = same_graph (Named (Iri graph)) g
writes s (Clear silent graphs) g = is_meant graphs g
writes s (Drop silent graphs) g = is_meant graphs g
writes s (Copy silent from to) g = same_graph (graph_of to) g
writes s (Move silent from to) g = same_graph (graph_of from) g || same_graph (graph_of to) g
writes s (Add silent from to) g = same_graph (graph_of to) g

-- each operation leaves all other graphs as they were: their triples, and whether they are there
abbrev pub OthersStay : Type 0
OthersStay = (s t : State) (operation : Operation) (g : GraphName) → Leads s operation t → writes s operation g ≡ false
    → (quads_of t.quads g ≡ quads_of s.quads g) × (is_there t g ≡ is_there s g)
