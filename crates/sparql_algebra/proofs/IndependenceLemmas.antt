-- The solutions don't depend on the order in which the graphs are listed.
use Rattle.std.proofs.Common.{◌≡◌, ◌+◌, Bool, true, false, cond, ◌&&◌, List, [], ◌∷◌, length, Option, Some, None, refl, sym, ap, ◌∙◌, take}
use Rattle.std.specs.List.{list_any, list_all}
use Rattle.rdf_terms.specs.Quad.{QuadParts}
use Rattle.rdf_terms.specs.declared.term.Term.{Term}
use Rattle.rdf_terms.specs.declared.term.Term.TheVariants as t
use Rattle.rdf_terms.specs.declared.quad.GraphName.{GraphName}
use Rattle.rdf_terms.specs.declared.quad.GraphName.TheVariants.{Named}
use Rattle.rdf_dataset.specs.State.{State}
use Rattle.sparql_trees.specs.declared.pattern.BasicGraphPattern.{BasicGraphPattern}
use Rattle.sparql_trees.specs.declared.pattern.TriplePattern.{TriplePattern}
use Rattle.sparql_trees.specs.declared.pattern.VarOrIri.TheVariants as v
use Rattle.sparql_algebra.specs.Algebra as algebra
use Rattle.sparql_algebra.specs.Algebra.{Algebra, basic, join, left_join, union, minus, graph}
use Rattle.sparql_algebra.specs.Bags.{SameBag}
use Rattle.sparql_algebra.specs.Listing.{Listing, Lists}
use Rattle.sparql_values.specs.Mapping.{Variables, Mapping, same_term, same_mapping, single}
use Rattle.sparql_algebra.specs.Solutions.{var_or_term, term_at, is_triple, holds, instance_lies, occurs, binds_exactly, assignments, basic_solutions, joins, satisfies, solutions}
use Rattle.sparql_algebra.proofs.Sums.{one, sums_from_counts}
use Rattle.sparql_algebra.proofs.TermLemmas.{same_mapping_is, same_mapping_own}
use Rattle.sparql_algebra.proofs.BagLemmas.{any_same, SameBag-refl, SameBag-filter, SameBag-map, SameBag-append, SameBag-flat_map, SameBag-joins, SameBag-left_joins}
use Rattle.sparql_algebra.proofs.MinusLemmas.{SameBag-minuses}
use Rattle.sparql_algebra.proofs.UniverseLemmas.{has_length}
use Rattle.sparql_algebra.proofs.AssignmentLemmas.{assignments_count}
use Rattle.sparql_algebra.proofs.ListingLemmas.{names_same, quads_same}

module _ (xs ys : List QuadParts) (same : SameBag xs ys) where
  holds_same : (a b c : Option Term) → holds xs a b c ≡ holds ys a b c
  holds_same (Some a) (Some b) (Some c) = any_same (is_triple a b c) xs ys same
  holds_same (Some a) (Some b) None = refl
  holds_same (Some a) None c = refl
  holds_same None b c = refl

  lies_same : (variables : Variables) (w : Mapping) (ps : List TriplePattern) →
      list_all (instance_lies variables xs w) ps ≡ list_all (instance_lies variables ys w) ps
  lies_same variables w [] = refl
  lies_same variables w (p ∷ ps) =
      ap (λ z. z && list_all (instance_lies variables xs w) ps)
      (holds_same (term_at variables w p.subject) (term_at variables w (var_or_term p.predicate)) (term_at variables w p.object))
      ∙ ap (λ z. instance_lies variables ys w p && z) (lies_same variables w ps)

  pub assignments_same : (variables : Variables) (b : BasicGraphPattern) → SameBag (assignments variables xs b) (assignments variables ys b)
  assignments_same variables b =
      sums_from_counts same_mapping same_mapping_is same_mapping_own (assignments variables xs b) (assignments variables ys b)
      (λ w. assignments_count variables xs b w
      ∙ ap (λ z. one (has_length (length variables + b.hidden) w && (z && binds_exactly (occurs variables b.triples) w))) (lies_same variables w b.triples)
      ∙ sym (assignments_count variables ys b w))

  pub basic_same : (variables : Variables) (b : BasicGraphPattern) → SameBag (basic_solutions variables xs b) (basic_solutions variables ys b)
  basic_same variables b = SameBag-map (take (length variables)) (assignments variables xs b) (assignments variables ys b) (assignments_same variables b)

SameBag-cond : {X : Type 0} (a b : Bool) (xs ys : List X) → a ≡ b → SameBag xs ys → SameBag (cond a xs []) (cond b ys [])
SameBag-cond true true xs ys e h = h
SameBag-cond true false xs ys e h = cc
SameBag-cond false true xs ys e h = cc
SameBag-cond false false xs ys e h = SameBag-refl []

module _ (variables : Variables) (d e : Listing) (names : SameBag d.names e.names) (quads : (g : GraphName) → SameBag (d.quads g) (e.quads g)) where
  same_solutions : (g : GraphName) (P : Algebra) → SameBag (solutions variables d g P) (solutions variables e g P)
  same_solutions g (basic b) = basic_same (d.quads g) (e.quads g) (quads g) variables b
  same_solutions g (join A B) =
      SameBag-joins (solutions variables d g A) (solutions variables e g A) (solutions variables d g B) (solutions variables e g B) (same_solutions g A) (same_solutions g B)
  same_solutions g (left_join F A B) =
      SameBag-left_joins (satisfies variables F) (solutions variables d g A) (solutions variables e g A) (solutions variables d g B) (solutions variables e g B)
      (same_solutions g A) (same_solutions g B)
  same_solutions g (algebra.filter F A) =
      SameBag-filter (satisfies variables F) (solutions variables d g A) (solutions variables e g A) (same_solutions g A)
  same_solutions g (union A B) =
      SameBag-append (solutions variables d g A) (solutions variables e g A) (solutions variables d g B) (solutions variables e g B) (same_solutions g A) (same_solutions g B)
  same_solutions g (minus A B) =
      SameBag-minuses (solutions variables d g A) (solutions variables e g A) (solutions variables d g B) (solutions variables e g B) (same_solutions g A) (same_solutions g B)
  same_solutions g (graph (v.Iri iri) A) =
      SameBag-cond (list_any (same_term (t.Iri iri)) d.names) (list_any (same_term (t.Iri iri)) e.names)
      (solutions variables d (Named (t.Iri iri)) A) (solutions variables e (Named (t.Iri iri)) A) (any_same (same_term (t.Iri iri)) d.names e.names names)
      (same_solutions (Named (t.Iri iri)) A)
  same_solutions g (graph (v.Variable name) A) =
      SameBag-flat_map (λ n. joins (solutions variables d (Named n) A) (single variables name n ∷ []))
      (λ n. joins (solutions variables e (Named n) A) (single variables name n ∷ [])) d.names e.names names
      (λ n. SameBag-joins (solutions variables d (Named n) A) (solutions variables e (Named n) A) (single variables name n ∷ []) (single variables name n ∷ [])
      (same_solutions (Named n) A) (SameBag-refl (single variables name n ∷ [])))

pub listings_same : (s : State) (d e : Listing) → Lists s d → Lists s e → (variables : Variables) (g : GraphName) (P : Algebra) →
    SameBag (solutions variables d g P) (solutions variables e g P)
listings_same s d e h k variables =
    same_solutions variables d e (names_same s d.names e.names h.names k.names) (λ g. quads_same s g (d.quads g) (e.quads g) (h.quads g) (k.quads g))
