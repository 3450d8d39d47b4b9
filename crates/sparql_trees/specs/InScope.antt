-- What each form of a pattern brings into scope, as the standard's table has it (SPARQL 1.1 Query, section 18.2.1).
use Rattle.std.specs.Prelude.{◌≡◌, ◌⊎◌, ◌↔◌, ℕ, List, [], ◌∷◌, Contains}
use Rattle.sparql_trees.specs.Visible.{Names, named, visible}
use Rattle.sparql_trees.specs.declared.expression.Expression.{Expression}
use Rattle.sparql_trees.specs.declared.pattern.BasicGraphPattern.{BasicGraphPattern}
use Rattle.sparql_trees.specs.declared.pattern.Member.{Member}
use Rattle.sparql_trees.specs.declared.pattern.Member.TheVariants as m
use Rattle.sparql_trees.specs.declared.pattern.Pattern.{Pattern}
use Rattle.sparql_trees.specs.declared.pattern.TriplePattern.{TriplePattern}
use Rattle.sparql_trees.specs.declared.pattern.VarOrIri.{VarOrIri}
use Rattle.sparql_trees.specs.declared.pattern.VarOrIri.TheVariants as name
use Rattle.sparql_trees.specs.declared.pattern.VarOrTerm.TheVariants as place

-- a group of one member
abbrev pub alone : Member → Pattern
alone x = record { members = x ∷ []; filters = [] }

-- the variable is the subject, the predicate or the object
abbrev pub OccursIn : TriplePattern → List ℕ → Type 0
OccursIn t v = (t.subject ≡ place.Variable v) ⊎ (t.predicate ≡ name.Variable v) ⊎ (t.object ≡ place.Variable v)

-- Which variables are in scope, form by form. `scope` lists those of a pattern.
pub record ScopeTable (scope : Pattern → Names) : Type 0 where
  -- of a basic graph pattern those that occur in it; its blank nodes are none
  pub triples : (b : BasicGraphPattern) (v : List ℕ) → Contains (scope (alone (m.Basic b))) v ↔ ((t : TriplePattern) × Contains b.triples t × OccursIn t v)
  -- of a group those of one of its members or more; FILTERs bring none
  pub group : (ms : List Member) (filters : List Expression) (v : List ℕ) →
      Contains (scope (record { members = ms; filters = filters })) v ↔ ((x : Member) × Contains ms x × Contains (scope (alone x)) v)
  -- of groups with UNION between them those of either
  pub union : (groups : List Pattern) (v : List ℕ) → Contains (scope (alone (m.Union groups))) v ↔ ((G : Pattern) × Contains groups G × Contains (scope G) v)
  pub optional : (G : Pattern) (v : List ℕ) → Contains (scope (alone (m.Optional G))) v ↔ Contains (scope G) v
  -- of GRAPH its name, where it is a variable, and those of its group
  pub graph : (x : VarOrIri) (G : Pattern) (v : List ℕ) → Contains (scope (alone (m.Graph x G))) v ↔ ((x ≡ name.Variable v) ⊎ Contains (scope G) v)

-- MINUS's group brings none
abbrev pub MinusShowsNone : Type 0
MinusShowsNone = (G : Pattern) (v : List ℕ) → ¬ Contains (visible (alone (m.Minus G))) v

-- but its variables are named
abbrev pub MinusNames : Type 0
MinusNames = (G : Pattern) (v : List ℕ) → Contains (named (alone (m.Minus G))) v ↔ Contains (named G) v
