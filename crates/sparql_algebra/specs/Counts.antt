-- The algebra by counts: what each operator makes of the counts of its parts (SPARQL 1.1 Query, section 18.5).
use Rattle.std.specs.Prelude.{◌≡◌, ℕ, ◌+◌, ◌*◌, ◌≤◌, ◌<◌, Bool, true, false, ◌&&◌, cond, List, [], ◌∷◌, ◌++◌, count_by, length, take, nat_eq}
use Rattle.std.specs.List.{sum_by, list_any}
use Rattle.rdf_terms.specs.Quad.{QuadParts}
use Rattle.rdf_terms.specs.declared.term.Term.{Term}
use Rattle.rdf_terms.specs.declared.term.Term.TheVariants as t
use Rattle.rdf_terms.specs.declared.quad.GraphName.{GraphName}
use Rattle.rdf_terms.specs.declared.quad.GraphName.TheVariants.{Named}
use Rattle.sparql_trees.specs.declared.expression.Expression.{Expression}
use Rattle.sparql_trees.specs.declared.pattern.BasicGraphPattern.{BasicGraphPattern}
use Rattle.sparql_trees.specs.declared.pattern.VarOrIri.TheVariants as v
use Rattle.sparql_algebra.specs.Algebra.{Algebra, basic, join, left_join, filter, union, minus, graph, empty_pattern}
use Rattle.sparql_algebra.specs.Bags.{once_if_any}
use Rattle.sparql_algebra.specs.Listing.{Listing}
use Rattle.sparql_values.specs.Mapping.{Variables, Mapping, same_term, same_mapping, compatible, merge, single}
use Rattle.sparql_algebra.specs.Solutions.{count, satisfies, shares, left_by, solves}

-- a finite list of the mappings that are counted above 0, each once
abbrev pub ListsCounted : List Mapping → (Mapping → ℕ) → Type 0
ListsCounted U N = (m : Mapping) → count_by (same_mapping m) U ≡ once_if_any (N m)

-- the two are compatible, their merge is this mapping, and the test is true of it
abbrev pub is_pair : (Mapping → Bool) → Mapping → Mapping → Mapping → Bool
is_pair F m a b = compatible a b && (F (merge a b) && same_mapping m (merge a b))

-- the sum of the products over the pairs whose merge is the mapping
abbrev pub pairs_count : (Mapping → Bool) → List Mapping → List Mapping → (Mapping → ℕ) → (Mapping → ℕ) → Mapping → ℕ
pairs_count F U V N M m = sum_by (λ a. sum_by (λ b. cond (is_pair F m a b) (N a * M b) 0) V) U

-- some pair begins with the mapping
abbrev pub begins_pair : (Mapping → Bool) → List Mapping → Mapping → Bool
begins_pair F V a = list_any (λ b. compatible a b && F (merge a b)) V

abbrev pub always : Mapping → Bool
always m = true

-- the assignment widens the mapping of the visible variables to the hidden ones of the pattern, and solves it
abbrev pub widens : Variables → List QuadParts → BasicGraphPattern → Mapping → Mapping → Bool
widens variables quads b m w =
    same_mapping m (take (length variables) w)
    && (nat_eq (length w) (length variables + b.hidden) && solves variables quads b.triples w)

module _ (variables : Variables) (d : Listing) where
  abbrev # : GraphName → Algebra → Mapping → ℕ
  # g P m = count variables d g P m

  -- A basic graph pattern counts a mapping once for each assignment of its hidden variables under which every instance lies in the graph.
  abbrev pub BasicLaw : Type 0
  BasicLaw = (g : GraphName) (b : BasicGraphPattern) (m : Mapping) (W : List Mapping) →
      ((w : Mapping) → count_by (same_mapping w) W ≡ cond (widens variables (d.quads g) b m w) 1 0) →
      # g (basic b) m ≡ length W

  abbrev pub JoinLaw : Type 0
  JoinLaw = (g : GraphName) (A B : Algebra) (U V : List Mapping) → ListsCounted U (# g A) → ListsCounted V (# g B) →
      (m : Mapping) → # g (join A B) m ≡ pairs_count always U V (# g A) (# g B) m

  -- a mapping that begins no pair whose merge fulfils the condition stays besides
  abbrev pub LeftJoinLaw : Type 0
  LeftJoinLaw = (g : GraphName) (F : List Expression) (A B : Algebra) (U V : List Mapping) → ListsCounted U (# g A) → ListsCounted V (# g B) →
      (m : Mapping) → # g (left_join F A B) m
      ≡ pairs_count (satisfies variables F) U V (# g A) (# g B) m + cond (begins_pair (satisfies variables F) V m) 0 (# g A m)

  abbrev pub FilterLaw : Type 0
  FilterLaw = (g : GraphName) (F : List Expression) (A : Algebra) (m : Mapping) → # g (filter F A) m ≡ cond (satisfies variables F m) (# g A m) 0

  abbrev pub UnionLaw : Type 0
  UnionLaw = (g : GraphName) (A B : Algebra) (m : Mapping) → # g (union A B) m ≡ # g A m + # g B m

  -- a mapping keeps its count where no compatible one has a variable in common with it; every other one is counted no more
  abbrev pub MinusLaw : Type 0
  MinusLaw = (g : GraphName) (A B : Algebra) (V : List Mapping) → ListsCounted V (# g B) →
      (m : Mapping) → # g (minus A B) m ≡ cond (left_by shares V m) (# g A m) 0

  -- in the graph of that name, where it is there
  abbrev pub NamedLaw : Type 0
  NamedLaw = (g : GraphName) (iri : List ℕ) (A : Algebra) (m : Mapping) →
      # g (graph (v.Iri iri) A) m ≡ cond (list_any (same_term (t.Iri iri)) d.names) (# (Named (t.Iri iri)) A m) 0

  -- over all names, each joined with the mapping of the variable to it
  abbrev pub VariableLaw : Type 0
  VariableLaw = (g : GraphName) (name : List ℕ) (A : Algebra) (U : Term → List Mapping) → ((n : Term) → ListsCounted (U n) (# (Named n) A)) →
      (m : Mapping) → # g (graph (v.Variable name) A) m
      ≡ sum_by (λ n. pairs_count always (U n) (single variables name n ∷ []) (# (Named n) A) (λ _. 1) m) d.names

  -- there always is such a list
  abbrev pub ListedLaw : Type 0
  ListedLaw = (g : GraphName) (A : Algebra) → (U : List Mapping) × ListsCounted U (# g A)

  -- ---- what follows

  abbrev pub JoinCommutes : Type 0
  JoinCommutes = (g : GraphName) (A B : Algebra) (m : Mapping) → # g (join A B) m ≡ # g (join B A) m

  abbrev pub JoinAssociates : Type 0
  JoinAssociates = (g : GraphName) (A B C : Algebra) (m : Mapping) → # g (join (join A B) C) m ≡ # g (join A (join B C)) m

  abbrev pub EmptyIsUnit : Type 0
  EmptyIsUnit = (g : GraphName) (A : Algebra) (m : Mapping) → # g (join empty_pattern A) m ≡ # g A m

  abbrev pub UnionCommutes : Type 0
  UnionCommutes = (g : GraphName) (A B : Algebra) (m : Mapping) → # g (union A B) m ≡ # g (union B A) m

  -- a mapping without a partner under the condition keeps its count
  abbrev pub LonelyStay : Type 0
  LonelyStay = (g : GraphName) (F : List Expression) (A B : Algebra) (V : List Mapping) → ListsCounted V (# g B) →
      (m : Mapping) → begins_pair (satisfies variables F) V m ≡ false → # g A m ≤ # g (left_join F A B) m

  abbrev pub EmptyConditionHolds : Type 0
  EmptyConditionHolds = (g : GraphName) (A : Algebra) (m : Mapping) → # g (filter [] A) m ≡ # g A m

  -- a condition may be asked expression by expression
  abbrev pub FiltersFollow : Type 0
  FiltersFollow = (g : GraphName) (F G : List Expression) (A : Algebra) (m : Mapping) → # g (filter (F ++ G) A) m ≡ # g (filter G (filter F A)) m

  abbrev pub FilterEntersUnion : Type 0
  FilterEntersUnion = (g : GraphName) (F : List Expression) (A B : Algebra) (m : Mapping) →
      # g (filter F (union A B)) m ≡ # g (union (filter F A) (filter F B)) m

  abbrev pub MinusAddsNone : Type 0
  MinusAddsNone = (g : GraphName) (A B : Algebra) (m : Mapping) → # g (minus A B) m ≤ # g A m

  -- nothing takes a mapping away that has no variable in common with it, compatible though it is
  abbrev pub NothingShared : Type 0
  NothingShared = (g : GraphName) (A B : Algebra) (m : Mapping) → ((b : Mapping) → 0 < # g B b → shares m b ≡ false) →
      # g (minus A B) m ≡ # g A m

  -- and each compatible one does that has
  abbrev pub SharedIsTaken : Type 0
  SharedIsTaken = (g : GraphName) (A B : Algebra) (m b : Mapping) → 0 < # g B b → compatible m b ≡ true → shares m b ≡ true →
      # g (minus A B) m ≡ 0

  abbrev pub EmptyTakesNone : Type 0
  EmptyTakesNone = (g : GraphName) (A : Algebra) (m : Mapping) → # g (minus A empty_pattern) m ≡ # g A m

  abbrev pub MinusOfUnion : Type 0
  MinusOfUnion = (g : GraphName) (A B C : Algebra) (m : Mapping) → # g (minus A (union B C)) m ≡ # g (minus (minus A B) C) m
