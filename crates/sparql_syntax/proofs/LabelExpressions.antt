-- Expressions, whose lexemes are no blank node labels.
use Rattle.std.proofs.Common.{refl, ℕ, zero, suc, List, []}
use Rattle.rdf_grammar.specs.declared.tree.Literal.TheVariants as l
use Rattle.sparql_terminals.specs.declared.terminal.Terminal.TheVariants as terminal
use Rattle.sparql_terminals.specs.Lexemes.{Derives}
use Rattle.sparql_trees.specs.declared.expression.Comparison.TheVariants as c
use Rattle.sparql_trees.specs.declared.expression.Function.TheVariants as f
use Rattle.sparql_trees.specs.declared.expression.Sign.TheVariants.{Plus, Minus}
use Rattle.sparql_expressions.specs.declared.tree.Expression.{Expression}
use Rattle.sparql_expressions.specs.declared.tree.Expression.TheVariants as e
use Rattle.sparql_expressions.specs.ExpressionGrammar as g
use Rattle.sparql_expressions.specs.ExpressionReading.{chain, sum}
use Rattle.sparql_syntax.specs.declared.clause.Clause.{Clause}
use Rattle.sparql_syntax.proofs.LabelFronts.{Gives, Silent, sign_gives, star_silent, one_silent, each_silent, map_silent, then_silent, or_silent, pure_silent, behind_silent, closed_silent}
use Rattle.sparql_syntax.proofs.LabelNodes.{iri_gives, literal_gives}

module _ (place : Clause) (label : List ℕ) (within : Clause) where
  -- ---- words

  comparison_silent : Silent place label within g.AComparison
  comparison_silent =
      or_silent place label within _ _ (closed_silent place label within terminal.Equal c.Equal refl) (or_silent place label within _ _ (closed_silent place label within terminal.NotEqual c.NotEqual refl) (or_silent place label within _ _ (closed_silent place label within terminal.Less c.Less refl)
      (or_silent place label within _ _ (closed_silent place label within terminal.Greater c.Greater refl) (or_silent place label within _ _ (closed_silent place label within terminal.LessOrEqual c.LessOrEqual refl) (closed_silent place label within terminal.GreaterOrEqual c.GreaterOrEqual refl)))))

  sign_silent : Silent place label within g.ASign
  sign_silent = or_silent place label within _ _ (closed_silent place label within terminal.Plus Plus refl) (closed_silent place label within terminal.Minus Minus refl)

  function_silent : Silent place label within g.AFunction
  function_silent =
      or_silent place label within _ _ (closed_silent place label within terminal.IsIri f.IsIri refl) (or_silent place label within _ _ (closed_silent place label within terminal.IsUri f.IsIri refl) (or_silent place label within _ _ (closed_silent place label within terminal.IsBlank f.IsBlank refl)
      (or_silent place label within _ _ (closed_silent place label within terminal.IsLiteral f.IsLiteral refl) (or_silent place label within _ _ (closed_silent place label within terminal.Str f.Str refl)
      (or_silent place label within _ _ (closed_silent place label within terminal.Lang f.Lang refl) (closed_silent place label within terminal.Datatype f.Datatype refl))))))

  signed_silent : Silent place label within g.SignedNumber
  signed_silent = or_silent place label within _ _ (map_silent place label within l.Integer _ (sign_gives place label within terminal.SignedInteger [] refl))
      (or_silent place label within _ _ (map_silent place label within l.Decimal _ (sign_gives place label within terminal.SignedDecimal [] refl)) (map_silent place label within l.Double _ (sign_gives place label within terminal.SignedDouble [] refl)))

  bound_silent : Silent place label within g.Bound
  bound_silent = behind_silent place label within terminal.Bound _ refl (behind_silent place label within terminal.Open _ refl (then_silent place label within _ _ (sign_gives place label within terminal.Variable [] refl) (λ name. closed_silent place label within terminal.Close (e.Bound name) refl)))

  -- ---- over a grammar of what stands in parentheses

  module _ (Expression' : Derives Expression) (inside : Silent place label within Expression') where
    bracketted_silent : Silent place label within (g.BrackettedExpression Expression')
    bracketted_silent = behind_silent place label within terminal.Open _ refl (then_silent place label within _ _ inside (λ x. closed_silent place label within terminal.Close x refl))

    same_term_silent : Silent place label within (g.SameTerm Expression')
    same_term_silent = behind_silent place label within terminal.SameTerm _ refl (behind_silent place label within terminal.Open _ refl
        (then_silent place label within _ _ inside (λ x. behind_silent place label within terminal.Comma _ refl (then_silent place label within _ _ inside (λ y. closed_silent place label within terminal.Close (e.SameTerm x y) refl)))))

    function_call_silent : Silent place label within (g.FunctionCall Expression')
    function_call_silent = then_silent place label within _ _ function_silent (λ function. map_silent place label within (e.Call function) _ bracketted_silent)

    call_silent : Silent place label within (g.BuiltInCall Expression')
    call_silent = or_silent place label within _ _ bound_silent (or_silent place label within _ _ same_term_silent function_call_silent)

    constraint_silent_with : Silent place label within (g.Constraint Expression')
    constraint_silent_with = or_silent place label within _ _ bracketted_silent call_silent

    primary_silent : Silent place label within (g.PrimaryExpression Expression')
    primary_silent = or_silent place label within _ _ bracketted_silent (or_silent place label within _ _ call_silent (or_silent place label within _ _ (map_silent place label within e.Name _ (iri_gives place label within))
        (or_silent place label within _ _ (map_silent place label within e.Literal _ (literal_gives place label within)) (map_silent place label within e.Variable _ (sign_gives place label within terminal.Variable [] refl)))))

    unary_silent : Silent place label within (g.UnaryExpression Expression')
    unary_silent = or_silent place label within _ _ (behind_silent place label within terminal.Not _ refl (map_silent place label within e.Not _ primary_silent))
        (or_silent place label within _ _ (behind_silent place label within terminal.Plus _ refl (map_silent place label within (e.Signed Plus) _ primary_silent))
        (or_silent place label within _ _ (behind_silent place label within terminal.Minus _ refl (map_silent place label within (e.Signed Minus) _ primary_silent)) primary_silent))

    factors_silent : Silent place label within (g.Factors Expression')
    factors_silent = each_silent place label within terminal.Star _ refl unary_silent

    multiplicative_silent : Silent place label within (g.MultiplicativeExpression Expression')
    multiplicative_silent = then_silent place label within _ _ unary_silent (λ first. then_silent place label within _ _ factors_silent (λ others. pure_silent place label within (chain e.Product first others)))

    sign_and_product_silent : Silent place label within (g.SignAndProduct Expression')
    sign_and_product_silent = then_silent place label within _ _ sign_silent (λ sign. then_silent place label within _ _ multiplicative_silent (λ x. pure_silent place label within (sign, x)))

    signed_product_silent : Silent place label within (g.SignedProduct Expression')
    signed_product_silent = then_silent place label within _ _ signed_silent (λ number. then_silent place label within _ _ factors_silent (λ others. pure_silent place label within (Plus, chain e.Product (e.Literal number) others)))

    additive_silent : Silent place label within (g.AdditiveExpression Expression')
    additive_silent = then_silent place label within _ _ multiplicative_silent
        (λ first. then_silent place label within _ _ (star_silent place label within _ (one_silent place label within _ (or_silent place label within _ _ sign_and_product_silent signed_product_silent))) (λ others. pure_silent place label within (sum first others)))

    relational_silent : Silent place label within (g.RelationalExpression Expression')
    relational_silent = then_silent place label within _ _ additive_silent
        (λ left. or_silent place label within _ _ (then_silent place label within _ _ comparison_silent (λ operator. map_silent place label within (e.Compare operator left) _ additive_silent)) (pure_silent place label within left))

    and_silent : Silent place label within (g.ConditionalAndExpression Expression')
    and_silent = then_silent place label within _ _ relational_silent (λ first. then_silent place label within _ _ (each_silent place label within terminal.And _ refl relational_silent) (λ others. pure_silent place label within (chain e.And first others)))

    or_expression_silent : Silent place label within (g.ConditionalOrExpression Expression')
    or_expression_silent = then_silent place label within _ _ and_silent (λ first. then_silent place label within _ _ (each_silent place label within terminal.Or _ refl and_silent) (λ others. pure_silent place label within (chain e.Or first others)))

  expression_silent : (depth : ℕ) → Silent place label within (g.Expressions_at depth)
  unfolding Gives
  expression_silent zero ts x us d = absurd d
  expression_silent (suc depth) ts x us d = or_expression_silent (g.Expressions_at depth) (expression_silent depth) ts x us d

  pub constraint_silent : (depth : ℕ) → Silent place label within (g.Constraint (g.Expressions_at depth))
  constraint_silent depth = constraint_silent_with (g.Expressions_at depth) (expression_silent depth)
