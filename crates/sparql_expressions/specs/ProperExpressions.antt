-- What each tree of an expression is: its names and tags are whole (SPARQL 1.1 Query, section 19.8).
use Rattle.std.specs.Prelude.{Bool, true, ◌&&◌}
use Rattle.std.specs.List.{list_all}
pub use Rattle.rdf_grammar.specs.Holds.{holds}
use Rattle.rdf_grammar.specs.Literals.{proper_literal}
use Rattle.rdf_grammar.specs.Prologue.{is_proper}
use Rattle.sparql_expressions.specs.declared.tree.Expression.{Expression}
use Rattle.sparql_expressions.specs.declared.tree.Expression.TheOpen.{Expression-F}
use Rattle.sparql_expressions.specs.declared.tree.Expression.TheFolds.{fold-Expression}

abbrev pub proper_expression_of : Expression-F Bool → Bool
proper_expression_of (Expression-F.Or xs) = list_all holds xs
proper_expression_of (Expression-F.And xs) = list_all holds xs
proper_expression_of (Expression-F.Compare operator x y) = x && y
proper_expression_of (Expression-F.Sum x ys) = x && list_all (λ y. y.1) ys
proper_expression_of (Expression-F.Product xs) = list_all holds xs
proper_expression_of (Expression-F.Not x) = x
proper_expression_of (Expression-F.Signed sign x) = x
proper_expression_of (Expression-F.Variable name) = true
proper_expression_of (Expression-F.Name name) = is_proper name
proper_expression_of (Expression-F.Literal l) = proper_literal l
proper_expression_of (Expression-F.Bound name) = true
proper_expression_of (Expression-F.SameTerm x y) = x && y
proper_expression_of (Expression-F.Call function x) = x

abbrev pub proper_expression : Expression → Bool
proper_expression = fold-Expression Bool proper_expression_of
