-- The translation of groups and the operators in the standard's words (SPARQL 1.1 Query, sections 18.2.2 and 18.5).
use Rattle.std.specs.Prelude.{◌≡◌, ◌<◌, true, not, ◌||◌, cond, List, [], ◌∷◌, ◌++◌}
use Rattle.rdf_terms.specs.declared.quad.GraphName.{GraphName}
use Rattle.sparql_trees.specs.declared.expression.Expression.{Expression}
use Rattle.sparql_trees.specs.declared.pattern.BasicGraphPattern.{BasicGraphPattern}
use Rattle.sparql_trees.specs.declared.pattern.Member.{Member}
use Rattle.sparql_trees.specs.declared.pattern.Member.TheVariants as m
use Rattle.sparql_trees.specs.declared.pattern.Pattern.{Pattern}
use Rattle.sparql_trees.specs.declared.pattern.VarOrIri.{VarOrIri}
use Rattle.sparql_algebra.specs.Algebra.{Algebra, basic, join, left_join, filter, union, minus, graph, empty_pattern, translation}
use Rattle.sparql_algebra.specs.Listing.{Listing}
use Rattle.sparql_algebra.specs.Solutions.{count, shares}
use Rattle.sparql_values.specs.Mapping.{Variables, Mapping, compatible, value_of}
use Rattle.sparql_values.specs.Values.{is_satisfied}

-- ---- groups, element by element (section 18.2.2.6)

-- the members of a group, without its FILTERs
abbrev pub members : List Member → Pattern
members ms = record { members = ms; filters = [] }

-- the members, and one more behind them
abbrev pub ending : List Member → Member → Pattern
ending ms last = members (ms ++ last ∷ [])

-- without elements it is the empty pattern
abbrev pub GroupBegins : Type 0
GroupBegins = translation (members []) ≡ empty_pattern

-- triples are joined with what stands before them
abbrev pub TriplesFollow : Type 0
TriplesFollow = (ms : List Member) (b : BasicGraphPattern) → translation (ending ms (m.Basic b)) ≡ join (translation (members ms)) (basic b)

-- a group in a group is joined as it is, with its own FILTERs
abbrev pub GroupFollows : Type 0
GroupFollows = (ms : List Member) (G : Pattern) → translation (ending ms (m.Union (G ∷ []))) ≡ join (translation (members ms)) (translation G)

-- and so is the union of two
abbrev pub UnionFollows : Type 0
UnionFollows = (ms : List Member) (G H : Pattern) →
    translation (ending ms (m.Union (G ∷ H ∷ []))) ≡ join (translation (members ms)) (union (translation G) (translation H))

-- a third one is united with the union of those before it
abbrev pub UnionGrows : Type 0
UnionGrows = (ms : List Member) (F G H : Pattern) →
    translation (ending ms (m.Union (F ∷ G ∷ H ∷ [])))
    ≡ join (translation (members ms)) (union (union (translation F) (translation G)) (translation H))

-- OPTIONAL's FILTERs are the condition, over its group without them
abbrev pub OptionalFollows : Type 0
OptionalFollows = (ms os : List Member) (F : List Expression) →
    translation (ending ms (m.Optional (record { members = os; filters = F }))) ≡ left_join F (translation (members ms)) (translation (members os))

abbrev pub GraphFollows : Type 0
GraphFollows = (ms : List Member) (name : VarOrIri) (G : Pattern) →
    translation (ending ms (m.Graph name G)) ≡ join (translation (members ms)) (graph name (translation G))

abbrev pub MinusFollows : Type 0
MinusFollows = (ms : List Member) (G : Pattern) → translation (ending ms (m.Minus G)) ≡ minus (translation (members ms)) (translation G)

-- the group's FILTERs are asked of all of it, wherever they stand
abbrev pub FiltersEnd : Type 0
FiltersEnd = (ms : List Member) (F : Expression) (Fs : List Expression) →
    translation (record { members = ms; filters = F ∷ Fs }) ≡ filter (F ∷ Fs) (translation (members ms))

-- ---- operators (section 18.5)

module _ (variables : Variables) (d : Listing) where
  -- Filter keeps a mapping where the expression is true of it
  abbrev pub FilterKeepsTrue : Type 0
  FilterKeepsTrue = (g : GraphName) (F : Expression) (A : Algebra) (m : Mapping) →
      count variables d g (filter (F ∷ []) A) m ≡ cond (is_satisfied (value_of variables m) F) (count variables d g A m) 0

  -- Minus keeps a mapping where each one on the right is not compatible with it, or has no variable in common with it
  abbrev pub MinusKeeps : Type 0
  MinusKeeps = (g : GraphName) (A B : Algebra) (m : Mapping) →
      ((b : Mapping) → 0 < count variables d g B b → (not (compatible m b) || not (shares m b)) ≡ true) →
      count variables d g (minus A B) m ≡ count variables d g A m
