-- Listings of a dataset: there is one, and what lies in a graph is what the state holds.
use Rattle.std.proofs.Common.{◌≡◌, Bool, true, false, cond, ◌&&◌, List, Option, None, filter, refl, sym, ap, ◌∙◌}
use Rattle.std.specs.Ordering.{eq_by_cmp}
use Rattle.std.specs.List.{count_by, list_any}
use Rattle.std.specs.FinSet.{contains, retain, contains-retain}
use Rattle.rdf_terms.specs.Quad.{QuadParts}
use Rattle.rdf_terms.specs.Order.{graph_cmp, quad_cmp}
use Rattle.rdf_terms.specs.OrderLaws.{term_cmp_total, term_cmp-IsAntisymmetric, graph_cmp_total, graph_cmp-IsAntisymmetric, quad_cmp_total, quad_cmp-IsAntisymmetric}
use Rattle.rdf_terms.specs.declared.term.Term.{Term}
use Rattle.rdf_terms.specs.declared.quad.GraphName.{GraphName}
use Rattle.rdf_dataset.specs.Sorted.{ListsOnce}
use Rattle.rdf_dataset.specs.State.{State, matches, fits_place}
use Rattle.sparql_algebra.specs.Bags.{SameBag}
use Rattle.sparql_algebra.specs.Listing.{Lists, graph_quads, listing_of}
use Rattle.sparql_values.specs.Mapping.{same_term}
use Rattle.sparql_algebra.specs.Solutions.{is_triple}
use Rattle.sparql_algebra.proofs.Sums.{one, sum_by-cong, sum_by-filter, sums_from_counts}
use Rattle.sparql_algebra.proofs.TruthLemmas.{and_left, and_right, and_true, both_true}
use Rattle.sparql_algebra.proofs.TermLemmas.{same_term_is, same_term_own}
use Rattle.sparql_algebra.proofs.CountLemmas.{sum_of_tests}
use Rattle.sparql_algebra.proofs.SetLemmas as sets

pub there_is_a_listing : (s : State) → Lists s (listing_of s)
there_is_a_listing s = record {
  names = sets.listed_once term_cmp_total term_cmp-IsAntisymmetric s.names;
  quads = λ g. sets.listed_once quad_cmp_total quad_cmp-IsAntisymmetric (graph_quads s g);
}

-- a graph's name is listed where it is there
pub name_listed : (s : State) (names : List Term) → ListsOnce s.names names → (n : Term) → list_any (same_term n) names ≡ contains s.names n
name_listed s names h n = sets.listed_has term_cmp_total term_cmp-IsAntisymmetric s.names names h n

pub name_once : (s : State) (names : List Term) → ListsOnce s.names names → (n : Term) → count_by (same_term n) names ≡ one (list_any (same_term n) names)
name_once s names h n = sets.listed_counts term_cmp_total term_cmp-IsAntisymmetric s.names names h n ∙ ap one (sym (name_listed s names h n))

pub names_same : (s : State) (xs ys : List Term) → ListsOnce s.names xs → ListsOnce s.names ys → SameBag xs ys
names_same s = sets.listed_same term_cmp_total term_cmp-IsAntisymmetric s.names

pub quads_same : (s : State) (g : GraphName) (xs ys : List QuadParts) → ListsOnce (graph_quads s g) xs → ListsOnce (graph_quads s g) ys → SameBag xs ys
quads_same s g = sets.listed_same quad_cmp_total quad_cmp-IsAntisymmetric (graph_quads s g)

same_graph_is : (g h : GraphName) → eq_by_cmp graph_cmp g h ≡ true → g ≡ h
same_graph_is = sets.same_is graph_cmp_total graph_cmp-IsAntisymmetric

pub same_quad_is : (q r : QuadParts) → eq_by_cmp quad_cmp q r ≡ true → q ≡ r
same_quad_is = sets.same_is quad_cmp_total quad_cmp-IsAntisymmetric

parts_same : (q r : QuadParts) → q.graph ≡ r.graph → q.subject ≡ r.subject → q.predicate ≡ r.predicate → q.object ≡ r.object → q ≡ r
parts_same q r g s p o = λ i. record { graph = g i; subject = s i; predicate = p i; object = o i }

pub in_graph : (s : State) (g : GraphName) (q : QuadParts) → contains (graph_quads s g) q ≡ (contains s.quads q && matches g None None None q)
in_graph s g q = contains-retain s.quads (matches g None None None) q (λ x e. ap (matches g None None None) (sym (quad_cmp-IsAntisymmetric q x e)))

module _ (s : State) (g : GraphName) (quads : List QuadParts) (h : ListsOnce (graph_quads s g) quads) (a b c : Term) where
  quad : QuadParts
  quad = record { graph = g; subject = a; predicate = b; object = c }

  listed_graph : (q : QuadParts) → list_any (eq_by_cmp quad_cmp q) quads ≡ true → g ≡ q.graph
  listed_graph q e =
      let there : contains (graph_quads s g) q ≡ true = sym (sets.listed_has quad_cmp_total quad_cmp-IsAntisymmetric (graph_quads s g) quads h q) ∙ e in
      same_graph_is g q.graph (and_left _ _ (and_right (contains s.quads q) _ (sym (in_graph s g q) ∙ there)))

  is_quad : (q : QuadParts) → list_any (eq_by_cmp quad_cmp q) quads ≡ true → is_triple a b c q ≡ eq_by_cmp quad_cmp quad q
  unfolding quad
  is_quad q e = both_true (is_triple a b c q) (eq_by_cmp quad_cmp quad q) to back
    where
      to : is_triple a b c q ≡ true → eq_by_cmp quad_cmp quad q ≡ true
      to t =
          let rest : (same_term b q.predicate && same_term c q.object) ≡ true = and_right (same_term a q.subject) _ t in
          let same : quad ≡ q = parts_same quad q (listed_graph q e) (same_term_is a q.subject (and_left _ _ t))
          (same_term_is b q.predicate (and_left _ _ rest)) (same_term_is c q.object (and_right (same_term b q.predicate) _ rest)) in
          ap (eq_by_cmp quad_cmp quad) (sym same) ∙ sets.own quad_cmp_total quad_cmp-IsAntisymmetric quad

      back : eq_by_cmp quad_cmp quad q ≡ true → is_triple a b c q ≡ true
      back t = ap (is_triple a b c) (sym (same_quad_is quad q t)) ∙ ap (λ x. x && (same_term b b && same_term c c)) (same_term_own a)
          ∙ ap (λ x. x && same_term c c) (same_term_own b) ∙ same_term_own c

  quad_in_graph : contains (graph_quads s g) quad ≡ contains s.quads (record { graph = g; subject = a; predicate = b; object = c })
  unfolding quad
  quad_in_graph = in_graph s g quad
      ∙ ap (λ x. contains s.quads quad && (x && true)) (sets.own graph_cmp_total graph_cmp-IsAntisymmetric g) ∙ and_true (contains s.quads quad)

  -- a triple lies in the graph where the state holds its quad
  pub triple_listed : list_any (is_triple a b c) quads ≡ contains s.quads (record { graph = g; subject = a; predicate = b; object = c })
  triple_listed =
      sets.any_on quad_cmp_total quad_cmp-IsAntisymmetric (is_triple a b c) (eq_by_cmp quad_cmp quad) quads is_quad
      ∙ sets.listed_has quad_cmp_total quad_cmp-IsAntisymmetric (graph_quads s g) quads h quad ∙ quad_in_graph

  -- and it stands there once
  pub triple_once : count_by (is_triple a b c) quads ≡ one (list_any (is_triple a b c) quads)
  triple_once =
      sets.sum_on quad_cmp_total quad_cmp-IsAntisymmetric (λ q. cond (is_triple a b c q) 1 0) (λ q. cond (eq_by_cmp quad_cmp quad q) 1 0) quads (λ q e. ap one (is_quad q e))
      ∙ sets.listed_counts quad_cmp_total quad_cmp-IsAntisymmetric (graph_quads s g) quads h quad ∙ ap one (quad_in_graph ∙ sym triple_listed)

-- ---- look-ups

-- the quad has the terms of the bound places
abbrev pub has_terms : Option Term → Option Term → Option Term → QuadParts → Bool
has_terms a b c q = fits_place a q.subject && (fits_place b q.predicate && fits_place c q.object)

one_of_three : (held here fit : Bool) → one (held && (here && fit)) ≡ cond fit (one (held && (here && true))) 0
one_of_three false here true = refl
one_of_three false here false = refl
one_of_three true false true = refl
one_of_three true false false = refl
one_of_three true true true = refl
one_of_three true true false = refl

module _ (s : State) (g : GraphName) (a b c : Option Term) where
  in_found : (q : QuadParts) → contains (retain s.quads (matches g a b c)) q ≡ (contains s.quads q && matches g a b c q)
  in_found q = contains-retain s.quads (matches g a b c) q (λ x e. ap (matches g a b c) (sym (quad_cmp-IsAntisymmetric q x e)))

  same_terms : (q x : QuadParts) → one (eq_by_cmp quad_cmp q x && has_terms a b c q) ≡ cond (has_terms a b c x) (one (eq_by_cmp quad_cmp q x)) 0
  same_terms q x = by_test (eq_by_cmp quad_cmp q x) refl
    where
      none_either : (t : Bool) → one false ≡ cond t (one false) 0
      none_either true = refl
      none_either false = refl

      by_test : (t : Bool) → eq_by_cmp quad_cmp q x ≡ t → one (t && has_terms a b c q) ≡ cond (has_terms a b c x) (one t) 0
      by_test true e = ap (λ (y : QuadParts). one (has_terms a b c y)) (same_quad_is q x e)
      by_test false e = none_either (has_terms a b c x)

  -- what is found for these terms are those of the graph's quads that have them
  pub found_quads : (found quads : List QuadParts) → ListsOnce (retain s.quads (matches g a b c)) found → ListsOnce (graph_quads s g) quads →
      SameBag found (filter (has_terms a b c) quads)
  found_quads found quads h k = sums_from_counts (eq_by_cmp quad_cmp) same_quad_is (sets.own quad_cmp_total quad_cmp-IsAntisymmetric) found (filter (has_terms a b c) quads) counted
    where
      counted : (q : QuadParts) → count_by (eq_by_cmp quad_cmp q) found ≡ count_by (eq_by_cmp quad_cmp q) (filter (has_terms a b c) quads)
      counted q =
          sets.listed_counts quad_cmp_total quad_cmp-IsAntisymmetric (retain s.quads (matches g a b c)) found h q
          ∙ ap one (in_found q)
          ∙ one_of_three (contains s.quads q) (eq_by_cmp graph_cmp g q.graph) (has_terms a b c q)
          ∙ ap (λ t. cond (has_terms a b c q) (one t) 0) (sym (in_graph s g q))
          ∙ ap (λ n. cond (has_terms a b c q) n 0) (sym (sets.listed_counts quad_cmp_total quad_cmp-IsAntisymmetric (graph_quads s g) quads k q))
          ∙ sym (sum_of_tests (eq_by_cmp quad_cmp q) (has_terms a b c q) quads)
          ∙ sum_by-cong (λ x. one (eq_by_cmp quad_cmp q x && has_terms a b c q)) (λ x. cond (has_terms a b c x) (one (eq_by_cmp quad_cmp q x)) 0) quads (same_terms q)
          ∙ sym (sum_by-filter (λ x. one (eq_by_cmp quad_cmp q x)) (has_terms a b c) quads)
