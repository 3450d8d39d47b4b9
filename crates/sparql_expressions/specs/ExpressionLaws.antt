-- What is read behind FILTER is what is derived, and nothing else is (SPARQL 1.1 Query, section 19.8).
use Rattle.std.specs.Prelude.{◌≡◌, ◌↔◌, ℕ, Some}
use Rattle.sparql_terminals.specs.Lexemes.{Lexemes}
use Rattle.sparql_expressions.specs.declared.tree.Expression.{Expression}
use Rattle.sparql_expressions.specs.ExpressionGrammar.{Constraint, Expressions_at}
use Rattle.sparql_expressions.specs.ExpressionReading.{constraint}

abbrev pub ConstraintsAreRead : Type 0
ConstraintsAreRead =
    (depth : ℕ) (ts : Lexemes) (x : Expression) (us : Lexemes)
    → (constraint depth ts ≡ Some (x, us)) ↔ Constraint (Expressions_at depth) ts x us

-- the front of the lexemes is a constraint, however deep its parentheses nest
abbrev pub IsConstraint : Lexemes → Expression → Lexemes → Type 0
IsConstraint ts x us = (depth : ℕ) × Constraint (Expressions_at depth) ts x us

-- no lexemes begin with two constraints, and each has one tree
abbrev pub OneConstraint : Type 0
OneConstraint =
    (ts : Lexemes) (x y : Expression) (us vs : Lexemes)
    → IsConstraint ts x us → IsConstraint ts y vs → (x ≡ y) × (us ≡ vs)
