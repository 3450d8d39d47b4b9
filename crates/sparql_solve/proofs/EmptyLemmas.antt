-- GRAPH whose group holds nothing is looked up as a basic graph pattern without triple patterns.
use Rattle.std.proofs.Common.{◌≡◌, Bool, true, false, cond, List, [], ◌∷◌, map, refl, sym, ap, ◌∙◌}
use Rattle.std.specs.List.{sum_by, list_any}
use Rattle.rdf_terms.specs.declared.term.Term.TheVariants as t
use Rattle.rdf_terms.specs.declared.quad.GraphName.{GraphName}
use Rattle.rdf_terms.specs.declared.quad.GraphName.TheVariants.{Named}
use Rattle.rdf_dataset.specs.State.{State}
use Rattle.sparql_trees.specs.declared.expression.Expression.{Expression}
use Rattle.sparql_trees.specs.declared.pattern.BasicGraphPattern.{BasicGraphPattern}
use Rattle.sparql_trees.specs.declared.pattern.Member.{Member}
use Rattle.sparql_trees.specs.declared.pattern.Member.TheVariants as m
use Rattle.sparql_trees.specs.declared.pattern.Pattern.{Pattern}
use Rattle.sparql_trees.specs.declared.pattern.VarOrIri.{VarOrIri}
use Rattle.sparql_trees.specs.declared.pattern.VarOrIri.TheVariants as v
use Rattle.sparql_values.specs.Mapping.{Variables, same_term, single}
use Rattle.sparql_algebra.specs.Algebra.{Algebra, element, empty_pattern, filtered, graph, group_of, translation}
use Rattle.sparql_algebra.specs.Bags.{SameBag}
use Rattle.sparql_algebra.specs.Listing.{Listing, Lists}
use Rattle.sparql_algebra.specs.Solutions.{joins, solutions}
use Rattle.sparql_algebra.proofs.CallerLemmas.{SameBag-flat_map, SameBag-joins, SameBag-merges, SameBag-refl, translation-is}
use Rattle.sparql_solve.specs.declared.look_ups.Graphs.{Graphs}
use Rattle.sparql_solve.specs.declared.look_ups.LookUp.{LookUp}
use Rattle.sparql_solve.specs.Sides.{HoldsJust, HoldsNone, graphs_of, look_up_in}
use Rattle.sparql_solve.specs.Under.{IsLookUpOf}
use Rattle.sparql_solve.proofs.SideLemmas.{graph_look_up, just_bag}

abbrev nothing : BasicGraphPattern
nothing = record { triples = []; hidden = 0 }

abbrev just_nothing : Pattern
just_nothing = record { members = m.Basic nothing ∷ []; filters = [] }

pub names_are : (l : LookUp) (graphs : Graphs) → l.graphs ≡ graphs → l.places ≡ [] → l.hidden ≡ 0 → (vs : Variables) → l ≡ look_up_in vs graphs nothing
names_are l graphs eg ep eh vs = λ i. record { graphs = eg i; places = ep i; hidden = eh i }

empty_is : (p : Pattern) → HoldsNone p → translation p ≡ empty_pattern
empty_is p h =
    translation-is p ∙ ap (λ (F : List Expression). filtered F (group_of (map element p.members))) h.filters
    ∙ ap (λ (ms : List Member). group_of (map element ms)) h.members

module _ (vs : Variables) (d : Listing) (A B : Algebra) (each : (g : GraphName) → SameBag (solutions vs d g A) (solutions vs d g B)) where
  graph_same : (name : VarOrIri) (active : GraphName) → SameBag (solutions vs d active (graph name A)) (solutions vs d active (graph name B))
  graph_same (v.Variable x) active =
      SameBag-flat_map (λ n. joins (solutions vs d (Named n) A) (single vs x n ∷ [])) (λ n. joins (solutions vs d (Named n) B) (single vs x n ∷ []))
      d.names d.names (SameBag-refl d.names)
      (λ n. SameBag-joins (solutions vs d (Named n) A) (solutions vs d (Named n) B) (single vs x n ∷ []) (single vs x n ∷ []) (each (Named n))
      (SameBag-refl (single vs x n ∷ [])))
  graph_same (v.Iri iri) active = by_test (list_any (same_term (t.Iri iri)) d.names)
    where
      by_test : (b : Bool) → SameBag (cond b (solutions vs d (Named (t.Iri iri)) A) []) (cond b (solutions vs d (Named (t.Iri iri)) B) [])
      by_test true = each (Named (t.Iri iri))
      by_test false = SameBag-refl []

pub nothing_look_up : (vs : Variables) (s : State) (name : VarOrIri) (p : Pattern) (graphs : Graphs) (l : LookUp) → HoldsNone p →
    ((d : Listing) → Lists s d → graphs ≡ graphs_of d.names name) → l ≡ look_up_in vs graphs nothing → (active : GraphName) →
    IsLookUpOf vs s l (λ d. solutions vs d active (graph name (translation p)))
nothing_look_up vs s name p graphs l h e is active d k w long f =
    graph_look_up vs s name just_nothing nothing graphs l just e is active d k w long f
    ∙ SameBag-merges w (solutions vs d active (graph name (translation just_nothing))) (solutions vs d active (graph name (translation p)))
    (graph_same vs d (translation just_nothing) (translation p) each name active) f
  where
    just : HoldsJust just_nothing nothing
    just = record { member = refl; filters = refl }

    each : (g : GraphName) → SameBag (solutions vs d g (translation just_nothing)) (solutions vs d g (translation p))
    each g f2 = sym (just_bag vs d just_nothing nothing just g f2) ∙ ap (λ (A : Algebra). sum_by f2 (solutions vs d g A)) (sym (empty_is p h))
