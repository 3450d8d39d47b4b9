-- The values of expressions, as the code's scope has them.
use Rattle.std.specs.Prelude.{ℤ, List, Option, map}
use Rattle.sparql_trees.specs.declared.expression.Expression.{Expression}
use Rattle.sparql_trees.specs.declared.expression.Sign.{Sign}
use Rattle.sparql_values.specs.Mapping.{value_of}
use Rattle.sparql_values.specs.Values as spec
use Rattle.sparql_values.specs.Values.{Bindings, Truth, Value}
use Rattle.sparql_values.specs.declared.evaluator.Scope.{Scope}

abbrev pub bindings : Scope → Bindings
bindings scope = value_of scope.variables.now scope.row.now

abbrev pub value_in : Scope → Expression → Value
value_in scope e = spec.value (bindings scope) e

abbrev pub truth_in : Scope → Expression → Truth
truth_in scope e = spec.truth (value_in scope e)

abbrev pub number_at : Scope → Expression → Option ℤ
number_at scope e = spec.number_in (value_in scope e)

abbrev pub signed_values : Scope → List (Sign × Expression) → List (Sign × Value)
signed_values scope terms = map (λ term. (term.0, value_in scope term.1)) terms
