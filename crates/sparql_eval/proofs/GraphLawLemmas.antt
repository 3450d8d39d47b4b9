-- What the operations on graphs mean, do and want, graph by graph.
use Rattle.std.proofs.Common.{◌≡◌, Bool, true, false, ◌||◌, not, ap, refl, ◌∙◌, if◌then◌else◌}
use Rattle.std.specs.FinSet.{contains, contains-insert, contains-union}
use Rattle.rdf_terms.specs.OrderLaws.{graph_cmp_total, graph_cmp-IsAntisymmetric, term_cmp_total, term_cmp-IsAntisymmetric, quad_cmp_total, quad_cmp-IsAntisymmetric}
use Rattle.rdf_terms.specs.Quad.{QuadParts}
use Rattle.rdf_terms.specs.declared.quad.GraphName.{GraphName}
use Rattle.rdf_terms.specs.declared.quad.GraphName.TheVariants.{Named}
use Rattle.rdf_terms.specs.declared.term.Term.{Term}
use Rattle.rdf_terms.specs.declared.term.Term.TheVariants.{Iri}
use Rattle.rdf_dataset.specs.State.{Names, State}
use Rattle.sparql_algebra.specs.Sorted.{sorted_solutions}
use Rattle.sparql_eval.specs.GraphLaws.{GraphsLeft, GraphsMeant, GraphsWanted, PatternsLookedFor}
use Rattle.sparql_eval.specs.Graphs.{graph_of, is_meant, is_there, quads_in, quads_of, same_graph}
use Rattle.sparql_eval.specs.Operations.{added, after, answer, copied, home_of, unless}
use Rattle.sparql_eval.specs.declared.fault.ApplyFault.TheVariants.{GraphExists, MissingGraph}
use Rattle.sparql_eval.proofs.SetLemmas.{contains-kept, tie_itself}
use Rattle.sparql_trees.specs.declared.operation.GraphRefAll.TheVariants as some
use Rattle.sparql_trees.specs.declared.operation.Operation.TheVariants.{Add, Clear, Copy, Create, Drop, Move}
use Rattle.std.specs.FinSet as set

pub graphs_meant : GraphsMeant
graphs_meant = record {
  one = λ iri. tie_itself graph_cmp_total graph_cmp-IsAntisymmetric (Named (Iri iri));
  one_alone = λ iri. refl;
  default = refl;
  default_alone = λ name. refl;
  named = λ name. refl;
  named_alone = refl;
  all = λ g. refl;
}

-- a name that was put in is there
put_in : (names : Names) (name : Term) → contains (set.insert names name) name ≡ true
put_in names name =
    contains-insert term_cmp_total names name name ∙ ap (λ b. b || contains names name) (tie_itself term_cmp_total term_cmp-IsAntisymmetric name)

-- nothing of two sets is missing where they are united
kept_beside : (s : State) (g h : GraphName) (q : QuadParts) → contains s.quads q ≡ true → contains (State.quads (added s g h)) q ≡ true
kept_beside s g h q there =
    contains-union quad_cmp_total s.quads (quads_in h (quads_of s.quads g)) q ∙ ap (λ b. b || contains (quads_in h (quads_of s.quads g)) q) there

added_onto : (s : State) (g h : GraphName) (q : QuadParts) → contains s.quads q ≡ true → (same : Bool) → contains (State.quads (if same then s else added s g h)) q ≡ true
added_onto s g h q there true = there
added_onto s g h q there false = kept_beside s g h q there

pub graphs_left : GraphsLeft
graphs_left = record {
  created = λ s silent iri. put_in s.names (Iri iri);
  created_empty = λ s silent iri. refl;
  cleared = λ s silent graphs q. contains-kept quad_cmp_total quad_cmp-IsAntisymmetric s.quads (λ q. not (is_meant graphs q.graph)) q;
  cleared_there = λ s silent graphs. refl;
  dropped = λ s silent graphs q. contains-kept quad_cmp_total quad_cmp-IsAntisymmetric s.quads (λ q. not (is_meant graphs q.graph)) q;
  dropped_gone = λ s silent graphs name. contains-kept term_cmp_total term_cmp-IsAntisymmetric s.names (λ n. not (is_meant graphs (Named n))) name;
  copied_there = λ s silent from iri other.
      ap (λ (b : Bool). is_there (if b then s else copied s (graph_of from) (Named (Iri iri))) (Named (Iri iri))) other ∙ put_in s.names (Iri iri);
  added_there = λ s silent from iri other.
      ap (λ (b : Bool). is_there (if b then s else added s (graph_of from) (Named (Iri iri))) (Named (Iri iri))) other ∙ put_in s.names (Iri iri);
  added = λ s silent from to q there. added_onto s (graph_of from) (graph_of to) q there (same_graph (graph_of from) (graph_of to));
}

pub graphs_wanted : GraphsWanted
graphs_wanted = record {
  create = λ s iri there. ap (λ b. answer s (after s (Create false iri)) false (unless (not b) GraphExists)) there;
  clear = λ s iri gone. ap (λ b. answer s (after s (Clear false (some.Graph iri))) false (unless b MissingGraph)) gone;
  drop = λ s iri gone. ap (λ b. answer s (after s (Drop false (some.Graph iri))) false (unless b MissingGraph)) gone;
  copy = λ s from to gone. ap (λ b. answer s (after s (Copy false from to)) false (unless b MissingGraph)) gone;
  move = λ s from to gone. ap (λ b. answer s (after s (Move false from to)) false (unless b MissingGraph)) gone;
  add = λ s from to gone. ap (λ b. answer s (after s (Add false from to)) false (unless b MissingGraph)) gone;
}

pub patterns_looked_for : PatternsLookedFor
patterns_looked_for = record {
  without = λ s m e. ap (λ w. sorted_solutions m.pattern (home_of w) s) e;
  with_graph = λ s m iri e. ap (λ w. sorted_solutions m.pattern (home_of w) s) e;
}
