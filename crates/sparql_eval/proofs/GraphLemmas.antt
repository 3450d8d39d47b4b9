-- Graphs that are emptied, dropped, copied and moved.
use Rattle.std.proofs.Common.{◌≡◌, ℕ, Bool, true, false, ◌&&◌, not, List, refl, sym, ap, ◌∙◌}
use mathlib.Core.Bool.{true≢false}
use Rattle.std.specs.FinSet as set
use Rattle.std.specs.FinSet.{contains, remove, retain, same_set, union}
use Rattle.std.specs.Ordering.{eq_by_cmp}
use Rattle.rdf_terms.specs.Order.{term_cmp}
use Rattle.rdf_terms.specs.OrderLaws.{graph_cmp_total, graph_cmp-IsAntisymmetric, term_cmp_total, term_cmp-IsAntisymmetric, quad_cmp_total, quad_cmp-IsAntisymmetric}
use Rattle.rdf_terms.specs.Quad.{QuadParts}
use Rattle.rdf_terms.specs.declared.quad.GraphName.{GraphName}
use Rattle.rdf_terms.specs.declared.quad.GraphName.TheVariants.{Default, Named}
use Rattle.rdf_terms.specs.declared.term.Term.{Term}
use Rattle.rdf_terms.specs.declared.term.Term.TheVariants.{Iri}
use Rattle.rdf_dataset.specs.State.{State, IsEmptyGraph, with_graph, without_named, without_names}
use Rattle.rdf_dataset.specs.State.{without_graph as without_quads_of}
use Rattle.sparql_eval.specs.Graphs.{is_default, quads_in, same_graph, without_graph}
use Rattle.sparql_eval.specs.Operations.{added, cleared, copied, dropped}
use Rattle.sparql_eval.specs.Inside.Staging.{emptied, gone, graphs_emptied, one_emptied}
use Rattle.sparql_eval.specs.declared.graphs.Names.{Names as Kept}
use Rattle.sparql_eval.specs.declared.graphs.Names.TheVariants as kept
use Rattle.sparql_eval.proofs.SetLemmas.{and_second, contains-kept, kept_alike, kept_all, kept_none, kept_twice, tie_itself, tie_same, tie_sym}
use Rattle.sparql_trees.specs.declared.operation.GraphRefAll.TheVariants as some

-- ---- which graphs

pub not_same_default : (g : GraphName) → same_graph Default g ≡ is_default g
not_same_default Default = refl
not_same_default (Named n) = refl

pub default_apart : (q : QuadParts) → not (same_graph Default q.graph) ≡ not (is_default q.graph)
default_apart q = ap not (not_same_default q.graph)

-- ---- graphs are emptied

twice : (b : Bool) → b ≡ not (not b)
twice true = refl
twice false = refl

-- the named graphs
named_cleared : (s : State) → without_named s ≡ cleared s some.Named
named_cleared s = λ i. record {
  quads = kept_alike quad_cmp_total quad_cmp-IsAntisymmetric s.quads (λ q. is_default q.graph) (λ q. not (not (is_default q.graph))) (λ q h. twice (is_default q.graph)) i;
  names = s.names;
  next = s.next;
}

-- the default graph
pub default_cleared : (s : State) → emptied s Default ≡ cleared s some.Default
default_cleared s = λ i. record { quads = retain s.quads (λ q. default_apart q i); names = s.names; next = s.next }

none_stays : (b : Bool) → (not b && not (not b)) ≡ false
none_stays true = refl
none_stays false = refl

all_cleared : (s mid : State) → mid ≡ emptied s Default → cleared mid some.Named ≡ cleared s some.All
all_cleared s mid e =
    ap (λ t. cleared t some.Named) (e ∙ default_cleared s)
    ∙ (λ i. record {
      quads = kept_twice quad_cmp_total quad_cmp-IsAntisymmetric s.quads (λ q. not (is_default q.graph)) (λ q. not (not (is_default q.graph))) (λ q. false) (λ q. none_stays (is_default q.graph)) i;
      names = s.names;
      next = s.next;
    })

-- ---- graphs go

pub emptied_is_empty : (s : State) (g : GraphName) → IsEmptyGraph (emptied s g) g
emptied_is_empty s g q h same =
    let out = and_second (contains s.quads q) _ (sym (contains-kept quad_cmp_total quad_cmp-IsAntisymmetric s.quads (λ q. not (same_graph g q.graph)) q) ∙ h) in
    true≢false (sym out ∙ ap not (ap (same_graph g) same ∙ tie_itself graph_cmp_total graph_cmp-IsAntisymmetric g))

-- the named graphs
named_dropped : (s : State) → without_names s ≡ dropped s some.Named
named_dropped s = λ i. record {
  quads = (named_cleared s i).quads;
  names = sym (kept_none term_cmp_total term_cmp-IsAntisymmetric s.names (λ n. false) (λ n h. refl)) i;
  next = s.next;
}

-- one named graph
pub one_gone : (s : State) (n : Term) → gone s (Named n) ≡ record { quads = without_graph s.quads (Named n); names = retain s.names (λ m. not (same_graph (Named n) (Named m))); next = s.next }
one_gone s n = λ i. record { quads = without_graph s.quads (Named n); names = without_one i; next = s.next }
  where
    without_one : remove s.names n ≡ retain s.names (λ m. not (eq_by_cmp term_cmp n m))
    without_one = same_set term_cmp_total term_cmp-IsAntisymmetric _ _ (λ m.
        set.contains-remove term_cmp_total s.names n m
        ∙ ap (λ b. not b && contains s.names m) (tie_sym term_cmp_total term_cmp-IsAntisymmetric m n)
        ∙ turned (not (eq_by_cmp term_cmp n m)) (contains s.names m)
        ∙ sym (contains-kept term_cmp_total term_cmp-IsAntisymmetric s.names (λ m. not (eq_by_cmp term_cmp n m)) m))
      where
        turned : (a b : Bool) → (a && b) ≡ (b && a)
        turned true true = refl
        turned true false = refl
        turned false true = refl
        turned false false = refl

-- the default graph has no name
pub default_gone : (s : State) → gone s Default ≡ dropped s some.Default
default_gone s = λ i. record {
  quads = retain s.quads (λ q. default_apart q i);
  names = sym (kept_all term_cmp_total term_cmp-IsAntisymmetric s.names (λ n. true) (λ n. refl)) i;
  next = s.next;
}

all_dropped : (s mid : State) → mid ≡ gone s Default → dropped mid some.Named ≡ dropped s some.All
all_dropped s mid e =
    ap (λ t. dropped t some.Named) e
    ∙ (λ i. record {
      quads = (ap (λ z. retain z (λ q. not (not (is_default q.graph)))) (λ i. retain s.quads (λ q. default_apart q i))
          ∙ kept_twice quad_cmp_total quad_cmp-IsAntisymmetric s.quads (λ q. not (is_default q.graph)) (λ q. not (not (is_default q.graph))) (λ q. false) (λ q. none_stays (is_default q.graph))) i;
      names = retain s.names (λ n. false);
      next = s.next;
    })

-- ---- either way

pub named_stay : (s : State) (k : Kept) → k ≡ kept.Stay → without_named s ≡ graphs_emptied k s some.Named
named_stay s k e = named_cleared s ∙ ap (λ k. graphs_emptied k s some.Named) (sym e)

pub named_go : (s : State) (k : Kept) → k ≡ kept.Go → without_names s ≡ graphs_emptied k s some.Named
named_go s k e = named_dropped s ∙ ap (λ k. graphs_emptied k s some.Named) (sym e)

-- the default graph has no name that could go
pub default_either_way : (k : Kept) (s : State) → without_quads_of s Default ≡ one_emptied k s Default
default_either_way kept.Stay s = refl
default_either_way kept.Go s = refl

pub graph_emptied : (k : Kept) (s : State) (iri : List ℕ) → one_emptied k s (Named (Iri iri)) ≡ graphs_emptied k s (some.Graph iri)
graph_emptied kept.Stay s iri = refl
graph_emptied kept.Go s iri = one_gone s (Iri iri)

pub default_emptied : (k : Kept) (s : State) → one_emptied k s Default ≡ graphs_emptied k s some.Default
default_emptied kept.Stay s = default_cleared s
default_emptied kept.Go s = default_gone s

-- the default graph, and then the named ones
pub both_emptied : (k : Kept) (s mid : State) → mid ≡ one_emptied k s Default → graphs_emptied k mid some.Named ≡ graphs_emptied k s some.All
both_emptied kept.Stay = all_cleared
both_emptied kept.Go = all_dropped

-- ---- graphs are copied

apart_from : (g h k : GraphName) → same_graph g h ≡ false → (not (same_graph h k) && same_graph g k) ≡ same_graph g k
apart_from g h k out =
    elim (same_graph g k) as (λ t. same_graph g k ≡ t → (not (same_graph h k) && t) ≡ t) [
      | true ↦ λ t. ap (λ b. not b && true) (ap (same_graph h) (sym (tie_same graph_cmp_total graph_cmp-IsAntisymmetric g k t)) ∙ tie_sym graph_cmp_total graph_cmp-IsAntisymmetric h g ∙ out)
      | false ↦ λ _. off (not (same_graph h k))
    ] refl
  where
    off : (a : Bool) → (a && false) ≡ false
    off true = refl
    off false = refl

-- the second graph is emptied, and the triples of the first come into it
pub replaced : (s mid : State) (g h : GraphName) → same_graph g h ≡ false → mid ≡ emptied s h → added mid g h ≡ copied s g h
replaced s mid g h out e =
    ap (λ t. added t g h) e
    ∙ (λ i. record {
      quads = union (without_graph s.quads h) (quads_in h (kept_twice quad_cmp_total quad_cmp-IsAntisymmetric s.quads (λ q. not (same_graph h q.graph)) (λ q. same_graph g q.graph) (λ q. same_graph g q.graph) (λ q. apart_from g h q.graph out) i));
      names = with_graph s.names h;
      next = s.next;
    })
