-- What holds of every dataset, pattern and query.
use Rattle.std.specs.Prelude.{◌≡◌, ◌↔◌, ℕ, ◌+◌, ◌<◌, Bool, true, false, ◌&&◌, cond, List, length, take, Option, Some, None, count_by, nat_eq, is_some}
use Rattle.std.specs.List.{list_any, list_all, flat_map}
use Rattle.std.specs.List.Sorted.{IsStrictlySortedBy}
use Rattle.std.specs.Ordering.{eq_by_cmp}
use Rattle.std.specs.FinSet as set
use Rattle.rdf_terms.specs.Order.{text_cmp}
use Rattle.rdf_terms.specs.declared.term.Term.{Term}
use Rattle.rdf_terms.specs.declared.quad.GraphName.{GraphName}
use Rattle.rdf_terms.specs.declared.quad.GraphName.TheVariants.{Default}
use Rattle.rdf_dataset.specs.State.{State, IsSound}
use Rattle.sparql_trees.specs.Visible.{all_names_in, named, names_in, triple_names, visible}
use Rattle.sparql_trees.specs.declared.pattern.BasicGraphPattern.{BasicGraphPattern}
use Rattle.sparql_trees.specs.declared.pattern.Pattern.{Pattern}
use Rattle.sparql_trees.specs.declared.pattern.TriplePattern.{TriplePattern}
use Rattle.sparql_trees.specs.declared.query.Select.{Select}
use Rattle.sparql_algebra.specs.Algebra.{Algebra, basic, translation}
use Rattle.sparql_algebra.specs.Bound.{IsValueOf, IsValue, IsValueBelow, AllValues}
use Rattle.sparql_algebra.specs.Listing.{Listing, Lists}
use Rattle.sparql_values.specs.Mapping.{Variables, Mapping, same_term, same_mapping, value_of}
use Rattle.sparql_algebra.specs.Results.{Solves, IsSelection, HasSolution, projected, pattern_count, pattern_solutions}
use Rattle.sparql_algebra.specs.Sorted.{IsSolutionList, sorted_solutions}
use Rattle.sparql_algebra.specs.Solutions.{var_or_term, term_at, holds, occurs, binds_exactly, solutions, count}

-- ---- listings

-- the graphs of every state can be listed
abbrev pub SomeListing : Type 0
SomeListing = (s : State) → (d : Listing) × Lists s d

-- however they are listed, each mapping is counted as often
abbrev pub ListingsAgree : Type 0
ListingsAgree = (s : State) (d e : Listing) → Lists s d → Lists s e →
    (variables : Variables) (g : GraphName) (P : Algebra) (m : Mapping) → count variables d g P m ≡ count variables e g P m

-- a triple lies in a graph where the state holds its quad
abbrev pub TriplesAreHeld : Type 0
TriplesAreHeld = (s : State) (d : Listing) → Lists s d → (g : GraphName) (a b c : Term) →
    holds (d.quads g) (Some a) (Some b) (Some c) ≡ set.contains s.quads (record { graph = g; subject = a; predicate = b; object = c })

-- a graph is there where the state has its name
abbrev pub NamesAreHeld : Type 0
NamesAreHeld = (s : State) (d : Listing) → Lists s d → (n : Term) → list_any (same_term n) d.names ≡ set.contains s.names n

abbrev pub held : State → GraphName → Option Term → Option Term → Option Term → Bool
held s g (Some a) (Some b) (Some c) = set.contains s.quads (record { graph = g; subject = a; predicate = b; object = c })
held s g (Some a) (Some b) None = false
held s g (Some a) None c = false
held s g None b c = false

-- the instance of a triple pattern is a triple of the graph
abbrev pub instance_held : State → GraphName → Variables → Mapping → TriplePattern → Bool
instance_held s g variables w t = held s g (term_at variables w t.subject) (term_at variables w (var_or_term t.predicate)) (term_at variables w t.object)

-- An assignment of exactly the variables of the pattern widens the mapping of the visible ones to the hidden ones, and under it every
-- instance is a triple of the graph.
abbrev pub is_assignment : State → GraphName → Variables → BasicGraphPattern → Mapping → Mapping → Bool
is_assignment s g variables b m w =
    same_mapping m (take (length variables) w)
    && (nat_eq (length w) (length variables + b.hidden)
    && (list_all (instance_held s g variables w) b.triples && binds_exactly (occurs variables b.triples) w))

-- a basic graph pattern counts a mapping once for each such assignment
abbrev pub AssignmentsCountOnce : Type 0
AssignmentsCountOnce = (s : State) (d : Listing) → Lists s d →
    (variables : Variables) (g : GraphName) (b : BasicGraphPattern) (m : Mapping) (W : List Mapping) →
    ((w : Mapping) → count_by (same_mapping w) W ≡ cond (is_assignment s g variables b m w) 1 0) →
    count variables d g (basic b) m ≡ length W

-- and there is a list of them, each once
abbrev pub AssignmentsListed : Type 0
AssignmentsListed = (s : State) (g : GraphName) (variables : Variables) (b : BasicGraphPattern) (m : Mapping) →
    (W : List Mapping) × ((w : Mapping) → count_by (same_mapping w) W ≡ cond (is_assignment s g variables b m w) 1 0)

-- ---- results

-- the variables of solutions stand in the order of their names, each once: those of the pattern's triple patterns and of its GRAPHs
abbrev pub VariablesInOrder : Type 0
VariablesInOrder = (P : Pattern) → IsStrictlySortedBy text_cmp (visible P)

abbrev pub VariablesAreAll : Type 0
VariablesAreAll = (P : Pattern) (name : List ℕ) →
    list_any (eq_by_cmp text_cmp name) (visible P) ≡ list_any (eq_by_cmp text_cmp name) (names_in P)

-- the same of those that are named anywhere
abbrev pub NamedInOrder : Type 0
NamedInOrder = (P : Pattern) → IsStrictlySortedBy text_cmp (named P)

abbrev pub NamedAreAll : Type 0
NamedAreAll = (P : Pattern) (name : List ℕ) →
    list_any (eq_by_cmp text_cmp name) (named P) ≡ list_any (eq_by_cmp text_cmp name) (all_names_in P)

abbrev pub SomeSolutions : Type 0
SomeSolutions = (P : Pattern) (g : GraphName) (s : State) → (rows : List Mapping) × Solves P g s (visible P) rows

-- any two lists of a pattern's solutions hold each mapping as often
abbrev pub SolutionsAgree : Type 0
SolutionsAgree = (P : Pattern) (g : GraphName) (s : State) (us vs : Variables) (xs ys : List Mapping) → Solves P g s us xs → Solves P g s vs ys →
    (us ≡ vs) × ((m : Mapping) → count_by (same_mapping m) xs ≡ count_by (same_mapping m) ys)

abbrev pub SomeSelection : Type 0
SomeSelection = (q : Select) (s : State) → (rows : List Mapping) × IsSelection q s rows

abbrev pub OneSelection : Type 0
OneSelection = (q : Select) (s : State) (xs ys : List Mapping) → IsSelection q s xs → IsSelection q s ys → xs ≡ ys

abbrev pub SomeAnswer : Type 0
SomeAnswer = (P : Pattern) (s : State) → (answer : Bool) × HasSolution P s answer

-- it is true where some mapping is counted
abbrev pub AnswerTellsSolutions : Type 0
AnswerTellsSolutions = (P : Pattern) (s : State) (answer : Bool) → HasSolution P s answer → (d : Listing) → Lists s d →
    (answer ≡ true) ↔ ((m : Mapping) × (0 < pattern_count P Default d m))

abbrev pub OneAnswer : Type 0
OneAnswer = (P : Pattern) (s : State) (x y : Bool) → HasSolution P s x → HasSolution P s y → x ≡ y

-- ---- variables that stand in MINUS alone

-- the name is one of these
abbrev pub is_among : List ℕ → Variables → Bool
is_among name names = list_any (eq_by_cmp text_cmp name) names

-- of the variables the mapping binds no others than these
abbrev pub BindsOnly : Variables → Variables → Mapping → Type 0
BindsOnly variables some m = (name : List ℕ) → is_among name some ≡ false → value_of variables m name ≡ None

-- a solution binds no variable that isn't visible
abbrev pub VisibleAreBound : Type 0
VisibleAreBound = (P : Pattern) (g : GraphName) (d : Listing) (m : Mapping) → 0 < count (named P) d g (translation P) m →
    BindsOnly (named P) (visible P) m

-- So nothing is lost where the visible ones alone are shown: as often as a mapping of these there is counted the one of all named variables
-- that has the same values and binds no others.
abbrev pub ShownCountsSame : Type 0
ShownCountsSame = (P : Pattern) (g : GraphName) (d : Listing) (m : Mapping) → length m ≡ length (named P) → BindsOnly (named P) (visible P) m →
    pattern_count P g d (projected (named P) (visible P) m) ≡ count (named P) d g (translation P) m

-- where no variable stands in MINUS alone, nothing is left out
abbrev pub NothingLeftOut : Type 0
NothingLeftOut = (P : Pattern) (g : GraphName) (d : Listing) → named P ≡ visible P →
    pattern_solutions P g d ≡ solutions (visible P) d g (translation P)

-- Each variable has a place while solutions are found: a solution of triple patterns whose variables all stand in the pattern, in MINUS or
-- outside, binds just those that stand in them.
abbrev pub TriplesBindTheirOwn : Type 0
TriplesBindTheirOwn = (P : Pattern) (b : BasicGraphPattern) →
    ((name : List ℕ) → is_among name (flat_map triple_names b.triples) ≡ true → is_among name (all_names_in P) ≡ true) →
    (g : GraphName) (d : Listing) (m : Mapping) → 0 < count (named P) d g (basic b) m →
    (name : List ℕ) → is_some (value_of (named P) m name) ≡ is_among name (flat_map triple_names b.triples)

-- ---- sorted solutions

abbrev pub SomeSolutionList : Type 0
SomeSolutionList = (P : Pattern) (g : GraphName) (s : State) → IsSolutionList P g s (sorted_solutions P g s)

abbrev pub OneSolutionList : Type 0
OneSolutionList = (P : Pattern) (g : GraphName) (s : State) (xs ys : List Mapping) → IsSolutionList P g s xs → IsSolutionList P g s ys → xs ≡ ys

-- each term that they bind stands in a quad of the state, or is the name of a graph
abbrev pub SolutionsOfState : Type 0
SolutionsOfState = (P : Pattern) (g : GraphName) (s : State) → AllValues (IsValueOf s) (sorted_solutions P g s)

-- so in a sound state it is a term of RDF
abbrev pub SolutionsOfTerms : Type 0
SolutionsOfTerms = (P : Pattern) (g : GraphName) (s : State) → IsSound s → AllValues IsValue (sorted_solutions P g s)

-- and no blank node with the next number or a later one
abbrev pub SolutionsBelow : Type 0
SolutionsBelow = (P : Pattern) (g : GraphName) (s : State) → IsSound s → AllValues (IsValueBelow s.next) (sorted_solutions P g s)
