-- Numbers that look-ups want.
use Rattle.std.proofs.Common.{◌≡◌, ℕ, true, ◌&&◌, List, refl, sym, ap, subst, ◌∙◌, eq-eqb}
use Rattle.std.specs.Prelude.{Option, None, Some, IsTrue}
use Rattle.std.proofs.lemmas.Bool.{eqb-true}
use Rattle.std.specs.Ordering.{eq_by_cmp}
use Rattle.std.specs.Cmp.{both_ways}
use Rattle.rdf_terms.specs.declared.term.Term.{Term}
use Rattle.rdf_terms.specs.declared.quad.GraphName.{GraphName}
use Rattle.rdf_terms.specs.Quad.{QuadParts}
use Rattle.rdf_terms.specs.Order.{graph_cmp}
use Rattle.rdf_terms.specs.OrderLaws.{term_cmp_total, term_cmp-IsAntisymmetric, graph_cmp_total, graph_cmp-IsAntisymmetric}
use Rattle.rdf_terms.specs.Table.{IsIdOf, AreHeldOnce}
use Rattle.rdf_orders.specs.Quads as ids
use Rattle.rdf_orders.specs.Quads.{IdQuad}
use Rattle.rdf_orders.proofs.CallerLemmas.{first_of_both, second_of_both}
use Rattle.rdf_store.specs.Stored.{matches, fits_place}
use Rattle.rdf_store.specs.Inside.Numbers.{IsGraphNumber, AreNumbersOf, WantsSame, WantsNone, WantsSameGraph, WantsNoGraph, graph_at, term_at}
use Rattle.rdf_store.proofs.ImageLemmas.{same_of_eq, eq_of_same}
use Rattle.rdf_store.proofs.NumberLemmas.{graph_once, term_is, graph_is}

module _ (table : List Term) where
  pub wants_graph : AreHeldOnce table → (number : ℕ) (graph : GraphName) → IsGraphNumber table number graph → WantsSameGraph table number graph
  wants_graph once number graph e id g f = both_ways _ _
      (λ h. eq_of_same graph_cmp_total graph_cmp-IsAntisymmetric graph g (sym (graph_is table number graph e) ∙ ap (graph_at table) (sym (eqb-true id number h)) ∙ graph_is table id g f))
      (λ h. eq-eqb id number (graph_once table once id number g f (subst (IsGraphNumber table number) (same_of_eq graph_cmp_total graph_cmp-IsAntisymmetric graph g h) e)))

  pub wants_no_graph : (graph : GraphName) → ((id : ℕ) → ¬ IsGraphNumber table id graph) → WantsNoGraph table graph
  wants_no_graph graph none id g f h = none id (subst (IsGraphNumber table id) (sym (same_of_eq graph_cmp_total graph_cmp-IsAntisymmetric graph g h)) f)

  pub wants_any : WantsSame table None None
  wants_any id t e = refl

  pub wants_term : AreHeldOnce table → (number : ℕ) (t : Term) → IsIdOf table number t → WantsSame table (Some number) (Some t)
  wants_term once number t e id x f = both_ways _ _
      (λ h. eq_of_same term_cmp_total term_cmp-IsAntisymmetric t x (sym (term_is table number t e) ∙ ap (term_at table) (sym (eqb-true id number h)) ∙ term_is table id x f))
      (λ h. eq-eqb id number (once id number x f (subst (IsIdOf table number) (same_of_eq term_cmp_total term_cmp-IsAntisymmetric t x h) e)))

  pub wants_no_term : (t : Term) → ((id : ℕ) → ¬ IsIdOf table id t) → WantsNone table (Some t)
  wants_no_term t none id x f h = none id (subst (IsIdOf table id) (sym (same_of_eq term_cmp_total term_cmp-IsAntisymmetric t x h)) f)

  module _ (g : GraphName) (s p o : Option Term) where
    pub same_matches : (gn : ℕ) (sn pn on : Option ℕ) → WantsSameGraph table gn g → WantsSame table sn s → WantsSame table pn p → WantsSame table on o
        → (k : IdQuad) (q : QuadParts) → AreNumbersOf table k q → ids.matches gn sn pn on k ≡ matches g s p o q
    same_matches gn sn pn on wg ws wp wo k q n =
        λ i. wg k.graph q.graph n.graph i && (ws k.subject q.subject n.subject i && (wp k.predicate q.predicate n.predicate i && wo k.object q.object n.object i))

    abbrev NoMatch : Type 0
    NoMatch = (k : IdQuad) (q : QuadParts) → AreNumbersOf table k q → ¬ IsTrue (matches g s p o q)

    pub no_graph : WantsNoGraph table g → NoMatch
    no_graph w k q n h = w k.graph q.graph n.graph (first_of_both _ _ h)

    in_places : (q : QuadParts) → IsTrue (matches g s p o q) → (fits_place s q.subject && (fits_place p q.predicate && fits_place o q.object)) ≡ true
    in_places q h = second_of_both (eq_by_cmp graph_cmp g q.graph) _ h

    pub no_subject : WantsNone table s → NoMatch
    no_subject w k q n h = w k.subject q.subject n.subject (first_of_both _ _ (in_places q h))

    pub no_predicate : WantsNone table p → NoMatch
    no_predicate w k q n h = w k.predicate q.predicate n.predicate (first_of_both _ _ (second_of_both (fits_place s q.subject) _ (in_places q h)))

    pub no_object : WantsNone table o → NoMatch
    no_object w k q n h = w k.object q.object n.object (second_of_both (fits_place p q.predicate) _ (second_of_both (fits_place s q.subject) _ (in_places q h)))
