-- What an expression says: names have their IRIs, literals stand for terms, and variables have their names (SPARQL 1.1 Query, sections 4.1
-- and 17).
use Rattle.std.specs.Prelude.{List, [], ◌∷◌, Option, Some, map, option_map, option_and_then}
use Rattle.rdf_grammar.specs.Literals.{literal_of}
use Rattle.rdf_grammar.specs.Prologue.{Prologue, iri_of}
use Rattle.rdf_terms.specs.declared.term.Term.TheVariants as term
use Rattle.sparql_expressions.specs.declared.tree.Expression as written
use Rattle.sparql_expressions.specs.declared.tree.Expression.TheFolds.{fold-Expression}
use Rattle.sparql_expressions.specs.declared.tree.Expression.TheOpen.{Expression-F}
use Rattle.sparql_queries.specs.Variables.{variable_name}
use Rattle.sparql_trees.specs.declared.expression.Expression.{Expression}
use Rattle.sparql_trees.specs.declared.expression.Expression.TheVariants as e
use Rattle.sparql_trees.specs.declared.expression.Sign.{Sign}

-- what two parts make, where both are there
abbrev pub both : {A B C : Type 0} → (A → B → C) → Option A → Option B → Option C
both make left right = option_and_then (λ a. option_map (make a) right) left

-- the parts of a list, where all are there
abbrev pub all : {A : Type 0} → List (Option A) → Option (List A)
all [] = Some []
all (part ∷ parts) = both (λ a others. a ∷ others) part (all parts)

-- what is added or taken, with its sign
abbrev pub addend : Sign × Option Expression → Option (Sign × Expression)
addend part = option_map (λ value. (part.0, value)) part.1

-- Against the prologue; nothing where a relative reference has no base.
module _ (p : Prologue) where
  abbrev pub expression_of : Expression-F (Option Expression) → Option Expression
  expression_of (Expression-F.Or operands) = option_map e.Or (all operands)
  expression_of (Expression-F.And operands) = option_map e.And (all operands)
  expression_of (Expression-F.Compare operator left right) = both (e.Compare operator) left right
  expression_of (Expression-F.Sum first addends) = both e.Sum first (all (map addend addends))
  expression_of (Expression-F.Product operands) = option_map e.Product (all operands)
  expression_of (Expression-F.Not operand) = option_map e.Not operand
  expression_of (Expression-F.Signed sign operand) = option_map (e.Signed sign) operand
  expression_of (Expression-F.Variable variable) = Some (e.Variable (variable_name variable))
  expression_of (Expression-F.Name name) = option_map (λ iri. e.Term (term.Iri iri)) (iri_of name p)
  expression_of (Expression-F.Literal literal) = option_map (λ parts. e.Term (term.Literal parts)) (literal_of literal p)
  expression_of (Expression-F.Bound variable) = Some (e.Bound (variable_name variable))
  expression_of (Expression-F.SameTerm left right) = both e.SameTerm left right
  expression_of (Expression-F.Call function operand) = option_map (e.Call function) operand

  abbrev pub expression_in : written.Expression → Option Expression
  expression_in = fold-Expression (Option Expression) expression_of
