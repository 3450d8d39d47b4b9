-- What holds of the operands of a sum, and what they say.
use Rattle.std.specs.Prelude.{ℕ, Bool, List, Option, map}
use Rattle.std.specs.List.{list_all}
use Rattle.rdf_grammar.specs.Prologue.{Prologue}
use Rattle.sparql_expressions.specs.ProperExpressions.{proper_expression}
use Rattle.sparql_expressions.specs.declared.tree.Expression as written
use Rattle.sparql_queries.specs.Expressions.{addend, expression_in}
use Rattle.sparql_queries.specs.Known.{known_expression}
use Rattle.sparql_trees.specs.declared.expression.Expression.{Expression}
use Rattle.sparql_trees.specs.declared.expression.Sign.{Sign}

-- each value that is added or taken passes the test
abbrev pub each_value : (written.Expression → Bool) → List (Sign × written.Expression) → Bool
each_value test parts = list_all (λ (part : Sign × Bool). part.1) (map (λ (part : Sign × written.Expression). (part.0, test part.1)) parts)

abbrev pub known_addend : List (List ℕ) → Sign × written.Expression → Bool
known_addend declared part = known_expression declared part.1

abbrev pub proper_addend : Sign × written.Expression → Bool
proper_addend part = proper_expression part.1

abbrev pub addend_in : Prologue → Sign × written.Expression → Option (Sign × Expression)
addend_in p part = addend (part.0, expression_in p part.1)
