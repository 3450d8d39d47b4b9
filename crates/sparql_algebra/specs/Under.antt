-- Patterns under a mapping: those of a pattern's solutions that are compatible with it, each as often. Each operator under a mapping is made of
-- its parts under mappings, so no part is to be evaluated alone.
use Rattle.std.specs.Prelude.{◌≡◌, ℕ, zero, suc, Bool, true, false, cond, ◌||◌, List, [], ◌∷◌, ◌++◌, length, Option, Some, None, map, filter}
use Rattle.std.specs.List.{list_any, flat_map}
use Rattle.rdf_terms.specs.declared.term.Term.{Term}
use Rattle.rdf_terms.specs.declared.term.Term.TheVariants as t
use Rattle.rdf_terms.specs.declared.quad.GraphName.{GraphName}
use Rattle.rdf_terms.specs.declared.quad.GraphName.TheVariants.{Named}
use Rattle.sparql_trees.specs.declared.expression.Expression.{Expression}
use Rattle.sparql_trees.specs.declared.pattern.BasicGraphPattern.{BasicGraphPattern}
use Rattle.sparql_trees.specs.declared.pattern.VarOrIri.{VarOrIri}
use Rattle.sparql_trees.specs.declared.pattern.VarOrIri.TheVariants as v
use Rattle.sparql_algebra.specs.Algebra as algebra
use Rattle.sparql_algebra.specs.Algebra.{Algebra, basic, join, left_join, union, minus, graph}
use Rattle.sparql_algebra.specs.Bags.{SameBag}
use Rattle.sparql_algebra.specs.Listing.{Listing}
use Rattle.sparql_algebra.specs.Solutions.{is_at, occurs, merges, joins, or_alone, left_joins, shares, left_by, minuses, satisfies, solutions}
use Rattle.sparql_values.specs.Mapping.{Variables, Mapping, same_term, column, value_of, empty_mapping, single, agrees, compatible, merge}

-- the mappings that are compatible with this one
abbrev pub agreeing : List Mapping → Mapping → List Mapping
agreeing A a = filter (compatible a) A

-- the columns that the test names; the others are unbound
abbrev pub cut : (ℕ → Bool) → Mapping → Mapping
cut test [] = []
cut test (x ∷ m) = cond (test zero) x None ∷ cut (λ c. test (suc c)) m

-- the names that a variable may have beside what a mapping has there
abbrev pub names_left : List Term → Option Term → List Term
names_left names x = filter (λ n. agrees (x, Some n)) names

-- the columns that a pattern may bind
abbrev pub sees : Variables → Algebra → ℕ → Bool
sees variables (basic b) c = occurs variables b.triples c
sees variables (join A B) c = sees variables A c || sees variables B c
sees variables (left_join F A B) c = sees variables A c || sees variables B c
sees variables (algebra.filter F A) c = sees variables A c
sees variables (union A B) c = sees variables A c || sees variables B c
sees variables (minus A B) c = sees variables A c
sees variables (graph (v.Iri iri) A) c = sees variables A c
sees variables (graph (v.Variable name) A) c = sees variables A c || is_at c (column variables name)

abbrev pub stands_any : {X : Type 0} → List X → Bool
stands_any [] = false
stands_any (x ∷ xs) = true

abbrev pub is_positive : ℕ → Bool
is_positive zero = false
is_positive (suc n) = true

-- the pattern has triple patterns outside GRAPH, or hidden variables of such ones
abbrev pub reads : Algebra → Bool
reads (basic b) = stands_any b.triples || is_positive b.hidden
reads (join A B) = reads A || reads B
reads (left_join F A B) = reads A || reads B
reads (algebra.filter F A) = reads A
reads (union A B) = reads A || reads B
reads (minus A B) = reads A || reads B
reads (graph name A) = false

-- Whichever the test is, what a list takes away from a mapping is asked for under that mapping.
abbrev pub MinusUnder : Type 0
MinusUnder = (test : Mapping → Mapping → Bool) (A B : List Mapping) (a : Mapping) →
    agreeing (filter (left_by test B) A) a ≡ filter (λ x. left_by test (agreeing B x) x) (agreeing A a)

module _ (variables : Variables) (d : Listing) where
  -- the solutions of a pattern that are compatible with the mapping
  abbrev pub under : GraphName → Algebra → Mapping → List Mapping
  under g P a = agreeing (solutions variables d g P) a

  -- a mapping of all variables
  abbrev IsRow : Mapping → Type 0
  IsRow a = length a ≡ length variables

  -- ---- what stands on the right is asked for under the left alone

  -- with nothing bound all of it
  abbrev pub AllUnderNothing : Type 0
  AllUnderNothing = (g : GraphName) (P : Algebra) → under g P (empty_mapping variables) ≡ solutions variables d g P

  abbrev pub JoinsUnder : Type 0
  JoinsUnder = (g : GraphName) (P : Algebra) (a : Mapping) → joins (a ∷ []) (solutions variables d g P) ≡ joins (a ∷ []) (under g P a)

  abbrev pub LeftJoinsUnder : Type 0
  LeftJoinsUnder = (g : GraphName) (P : Algebra) (F : Mapping → Bool) (a : Mapping) →
      left_joins (a ∷ []) (solutions variables d g P) F ≡ left_joins (a ∷ []) (under g P a) F

  -- ---- operator by operator

  -- what looking up under the mapping gives, without the columns that are the mapping's alone
  abbrev pub BasicUnder : Type 0
  BasicUnder = (g : GraphName) (b : BasicGraphPattern) (a : Mapping) → IsRow a →
      under g (basic b) a ≡ map (cut (occurs variables b.triples)) (merges (solutions variables d g (basic b)) a)

  abbrev pub UnionUnder : Type 0
  UnionUnder = (g : GraphName) (A B : Algebra) (a : Mapping) → under g (union A B) a ≡ under g A a ++ under g B a

  -- the right side under what the mapping and the left one have
  abbrev pub JoinUnder : Type 0
  JoinUnder = (g : GraphName) (A B : Algebra) (a : Mapping) → IsRow a →
      under g (join A B) a ≡ flat_map (λ x. map (merge x) (under g B (merge a x))) (under g A a)

  -- The right side under the left one alone: a merge that isn't compatible with the mapping keeps the left one from standing alone.
  abbrev pub LeftJoinUnder : Type 0
  LeftJoinUnder = (g : GraphName) (F : List Expression) (A B : Algebra) (a : Mapping) → IsRow a →
      under g (left_join F A B) a
      ≡ flat_map (λ x. agreeing (or_alone x (filter (satisfies variables F) (map (merge x) (under g B x)))) a) (under g A a)

  -- The right side under the left one alone, whatever it has in common with the mapping.
  abbrev pub MinusUnderLeft : Type 0
  MinusUnderLeft = (g : GraphName) (A B : Algebra) (a : Mapping) →
      under g (minus A B) a ≡ filter (λ x. left_by shares (under g B x) x) (under g A a)

  -- ---- a right side that is found alone

  abbrev pub JoinAlone : Type 0
  JoinAlone = (g : GraphName) (A B : Algebra) (a : Mapping) → IsRow a →
      under g (join A B) a ≡ agreeing (joins (under g A a) (solutions variables d g B)) a

  abbrev pub LeftJoinAlone : Type 0
  LeftJoinAlone = (g : GraphName) (F : List Expression) (A B : Algebra) (a : Mapping) → IsRow a →
      under g (left_join F A B) a ≡ agreeing (left_joins (under g A a) (solutions variables d g B) (satisfies variables F)) a

  abbrev pub MinusAlone : Type 0
  MinusAlone = (g : GraphName) (A B : Algebra) (a : Mapping) → under g (minus A B) a ≡ minuses (under g A a) (solutions variables d g B)

  -- ---- conditions and graphs

  -- the condition is asked of the pattern's own mapping
  abbrev pub FilterUnder : Type 0
  FilterUnder = (g : GraphName) (F : List Expression) (A : Algebra) (a : Mapping) →
      under g (algebra.filter F A) a ≡ filter (satisfies variables F) (under g A a)

  abbrev pub NamedUnder : Type 0
  NamedUnder = (g : GraphName) (iri : List ℕ) (A : Algebra) (a : Mapping) →
      under g (graph (v.Iri iri) A) a ≡ cond (list_any (same_term (t.Iri iri)) d.names) (under (Named (t.Iri iri)) A a) []

  -- in the graphs whose name the variable may have, and there under it
  abbrev pub VariableUnder : Type 0
  VariableUnder = (g : GraphName) (name : List ℕ) (A : Algebra) (a : Mapping) → IsRow a →
      under g (graph (v.Variable name) A) a
      ≡ flat_map (λ n. map (λ x. merge x (single variables name n)) (under (Named n) A (merge a (single variables name n))))
      (names_left d.names (value_of variables a name))

  -- ---- what a pattern doesn't see

  -- GRAPH sets the active graph, whatever it was
  abbrev pub GraphSetsActive : Type 0
  GraphSetsActive = (g h : GraphName) (name : VarOrIri) (A : Algebra) (a : Mapping) → under g (graph name A) a ≡ under h (graph name A) a

  -- nor does a pattern whose triple patterns all stand in GRAPH see the active graph
  abbrev pub ActiveUnread : Type 0
  ActiveUnread = (g h : GraphName) (P : Algebra) → reads P ≡ false → SameBag (solutions variables d g P) (solutions variables d h P)

  -- what a mapping has at columns that the pattern can't bind is nothing to it
  abbrev pub UnderSeen : Type 0
  UnderSeen = (g : GraphName) (P : Algebra) (a : Mapping) → under g P (cut (sees variables P) a) ≡ under g P a
