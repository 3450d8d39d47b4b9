-- Functions of expressions, by what the expression is.
use Rattle.std.proofs.Common.{◌≡◌, List, map, sym, ◌∙◌, ap}
use Rattle.rdf_grammar.specs.declared.tree.Literal.{Literal}
use Rattle.rdf_grammar.specs.declared.tree.Name.{Name}
use Rattle.rdf_grammar.specs.Terminals.{Slice}
use Rattle.sparql_trees.specs.declared.expression.Comparison.{Comparison}
use Rattle.sparql_trees.specs.declared.expression.Function.{Function}
use Rattle.sparql_trees.specs.declared.expression.Sign.{Sign}
use Rattle.sparql_expressions.specs.declared.tree.Expression.{Expression}
use Rattle.sparql_expressions.specs.declared.tree.Expression.TheVariants as e
use Rattle.sparql_expressions.specs.declared.tree.Expression.TheOpen.{Expression-F}
use Rattle.sparql_expressions.specs.declared.tree.Expression.TheFolds.{fold-Expression, fold-roll-Expression}

module _ {A : Type 0} (f : Expression-F A → A) where
  abbrev of : Expression → A
  of = fold-Expression A f

  pub by-Or : (xs : List Expression) → of (e.Or xs) ≡ f (Expression-F.Or (map of xs))
  by-Or xs = ap of (sym (e.rolls-Or xs)) ∙ fold-roll-Expression A f (Expression-F.Or xs)

  pub by-And : (xs : List Expression) → of (e.And xs) ≡ f (Expression-F.And (map of xs))
  by-And xs = ap of (sym (e.rolls-And xs)) ∙ fold-roll-Expression A f (Expression-F.And xs)

  pub by-Compare : (operator : Comparison) (x y : Expression) → of (e.Compare operator x y) ≡ f (Expression-F.Compare operator (of x) (of y))
  by-Compare operator x y = ap of (sym (e.rolls-Compare operator x y)) ∙ fold-roll-Expression A f (Expression-F.Compare operator x y)

  pub by-Sum : (x : Expression) (ys : List (Sign × Expression)) → of (e.Sum x ys) ≡ f (Expression-F.Sum (of x) (map (λ y. (y.0, of y.1)) ys))
  by-Sum x ys = ap of (sym (e.rolls-Sum x ys)) ∙ fold-roll-Expression A f (Expression-F.Sum x ys)

  pub by-Product : (xs : List Expression) → of (e.Product xs) ≡ f (Expression-F.Product (map of xs))
  by-Product xs = ap of (sym (e.rolls-Product xs)) ∙ fold-roll-Expression A f (Expression-F.Product xs)

  pub by-Not : (x : Expression) → of (e.Not x) ≡ f (Expression-F.Not (of x))
  by-Not x = ap of (sym (e.rolls-Not x)) ∙ fold-roll-Expression A f (Expression-F.Not x)

  pub by-Signed : (sign : Sign) (x : Expression) → of (e.Signed sign x) ≡ f (Expression-F.Signed sign (of x))
  by-Signed sign x = ap of (sym (e.rolls-Signed sign x)) ∙ fold-roll-Expression A f (Expression-F.Signed sign x)

  pub by-Variable : (name : Slice) → of (e.Variable name) ≡ f (Expression-F.Variable name)
  by-Variable name = ap of (sym (e.rolls-Variable name)) ∙ fold-roll-Expression A f (Expression-F.Variable name)

  pub by-Name : (name : Name) → of (e.Name name) ≡ f (Expression-F.Name name)
  by-Name name = ap of (sym (e.rolls-Name name)) ∙ fold-roll-Expression A f (Expression-F.Name name)

  pub by-Literal : (literal : Literal) → of (e.Literal literal) ≡ f (Expression-F.Literal literal)
  by-Literal literal = ap of (sym (e.rolls-Literal literal)) ∙ fold-roll-Expression A f (Expression-F.Literal literal)

  pub by-Bound : (name : Slice) → of (e.Bound name) ≡ f (Expression-F.Bound name)
  by-Bound name = ap of (sym (e.rolls-Bound name)) ∙ fold-roll-Expression A f (Expression-F.Bound name)

  pub by-SameTerm : (x y : Expression) → of (e.SameTerm x y) ≡ f (Expression-F.SameTerm (of x) (of y))
  by-SameTerm x y = ap of (sym (e.rolls-SameTerm x y)) ∙ fold-roll-Expression A f (Expression-F.SameTerm x y)

  pub by-Call : (function : Function) (x : Expression) → of (e.Call function x) ≡ f (Expression-F.Call function (of x))
  by-Call function x = ap of (sym (e.rolls-Call function x)) ∙ fold-roll-Expression A f (Expression-F.Call function x)
