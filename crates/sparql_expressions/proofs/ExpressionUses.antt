-- What stands behind FILTER is lexemes that the grammar has a use for.
use Rattle.std.proofs.Common.{◌≡◌, ℕ, zero, suc, false, List, refl}
use Rattle.rdf_grammar.specs.Derivations as grammar
use Rattle.rdf_grammar.specs.Derivations.{Then, Star}
use Rattle.rdf_grammar.specs.declared.tree.Literal.TheVariants as l
use Rattle.sparql_terminals.specs.declared.terminal.Terminal.{Terminal}
use Rattle.sparql_terminals.specs.declared.terminal.Terminal.TheVariants as terminal
use Rattle.sparql_terminals.specs.Lexemes.{Derives}
use Rattle.sparql_terminals.specs.Useful.{is_other}
use Rattle.sparql_terminals.proofs.CallerLemmas.{Uses, behind_uses, closed_uses, each_uses, iri_uses, leaf_uses, literal_uses, map_uses, one_uses, or_uses, pure_uses, star_uses, the_uses, then_uses, value_uses}
use Rattle.sparql_trees.specs.declared.expression.Comparison.TheVariants as c
use Rattle.sparql_trees.specs.declared.expression.Function.TheVariants as f
use Rattle.sparql_trees.specs.declared.expression.Sign.TheVariants.{Plus, Minus}
use Rattle.sparql_expressions.specs.declared.tree.Expression.{Expression}
use Rattle.sparql_expressions.specs.declared.tree.Expression.TheVariants as e
use Rattle.sparql_expressions.specs.ExpressionGrammar as g
use Rattle.sparql_expressions.specs.ExpressionReading.{chain, sum}

-- ---- words

comparison_uses : Uses g.AComparison
comparison_uses =
    or_uses _ _ (closed_uses terminal.Equal c.Equal refl) (or_uses _ _ (closed_uses terminal.NotEqual c.NotEqual refl) (or_uses _ _ (closed_uses terminal.Less c.Less refl)
    (or_uses _ _ (closed_uses terminal.Greater c.Greater refl) (or_uses _ _ (closed_uses terminal.LessOrEqual c.LessOrEqual refl) (closed_uses terminal.GreaterOrEqual c.GreaterOrEqual refl)))))

sign_uses : Uses g.ASign
sign_uses = or_uses _ _ (closed_uses terminal.Plus Plus refl) (closed_uses terminal.Minus Minus refl)

function_uses : Uses g.AFunction
function_uses =
    or_uses _ _ (closed_uses terminal.IsIri f.IsIri refl) (or_uses _ _ (closed_uses terminal.IsUri f.IsIri refl) (or_uses _ _ (closed_uses terminal.IsBlank f.IsBlank refl)
    (or_uses _ _ (closed_uses terminal.IsLiteral f.IsLiteral refl) (or_uses _ _ (closed_uses terminal.Str f.Str refl)
    (or_uses _ _ (closed_uses terminal.Lang f.Lang refl) (closed_uses terminal.Datatype f.Datatype refl))))))

signed_uses : Uses g.SignedNumber
signed_uses = or_uses _ _ (leaf_uses l.Integer terminal.SignedInteger refl)
    (or_uses _ _ (leaf_uses l.Decimal terminal.SignedDecimal refl) (leaf_uses l.Double terminal.SignedDouble refl))

bound_uses : Uses g.Bound
bound_uses = behind_uses terminal.Bound _ refl (behind_uses terminal.Open _ refl (then_uses _ _ (value_uses terminal.Variable refl)
    (λ variable. closed_uses terminal.Close (e.Bound variable) refl)))

-- ---- over grammars of what stands in parentheses

module _ (P : Derives Expression) (p : Uses P) where
  bracketted_uses : Uses (g.BrackettedExpression P)
  bracketted_uses = behind_uses terminal.Open _ refl (then_uses _ _ p (λ inner. closed_uses terminal.Close inner refl))

  same_term_uses : Uses (g.SameTerm P)
  same_term_uses = behind_uses terminal.SameTerm _ refl (behind_uses terminal.Open _ refl (then_uses _ _ p
      (λ left. behind_uses terminal.Comma _ refl (then_uses _ _ p (λ right. closed_uses terminal.Close (e.SameTerm left right) refl)))))

  function_call_uses : Uses (g.FunctionCall P)
  function_call_uses = then_uses _ _ function_uses (λ function. map_uses (e.Call function) _ bracketted_uses)

  call_uses : Uses (g.BuiltInCall P)
  call_uses = or_uses _ _ bound_uses (or_uses _ _ same_term_uses function_call_uses)

  constraint_with : Uses (g.Constraint P)
  constraint_with = or_uses _ _ bracketted_uses call_uses

  primary_uses : Uses (g.PrimaryExpression P)
  primary_uses =
      or_uses _ _ bracketted_uses (or_uses _ _ call_uses (or_uses _ _ (map_uses e.Name _ iri_uses) (or_uses _ _ (map_uses e.Literal _ literal_uses) (leaf_uses e.Variable terminal.Variable refl))))

  unary_uses : Uses (g.UnaryExpression P)
  unary_uses =
      or_uses _ _ (behind_uses terminal.Not _ refl (map_uses e.Not _ primary_uses)) (or_uses _ _ (behind_uses terminal.Plus _ refl (map_uses (e.Signed Plus) _ primary_uses))
      (or_uses _ _ (behind_uses terminal.Minus _ refl (map_uses (e.Signed Minus) _ primary_uses)) primary_uses))

  abbrev Chain : Terminal → (List Expression → Expression) → Derives Expression → Derives Expression
  Chain k node R = Then R (λ first. Then (Star (grammar.one (grammar.◌>>◌ (grammar.the k) R))) (λ others. grammar.pure (chain node first others)))

  chain_uses : (k : Terminal) (node : List Expression → Expression) (R : Derives Expression) → is_other k ≡ false → Uses R → Uses (Chain k node R)
  chain_uses k node R used r = then_uses _ _ r (λ first. then_uses _ _ (each_uses k R used r) (λ others. pure_uses (chain node first others)))

  multiplicative_uses : Uses (g.MultiplicativeExpression P)
  multiplicative_uses = chain_uses terminal.Star e.Product _ refl unary_uses

  sign_and_product_uses : Uses (g.SignAndProduct P)
  sign_and_product_uses = then_uses _ _ sign_uses (λ sign. then_uses _ _ multiplicative_uses (λ x. pure_uses (sign, x)))

  signed_product_uses : Uses (g.SignedProduct P)
  signed_product_uses = then_uses _ _ signed_uses
      (λ number. then_uses _ _ (each_uses terminal.Star _ refl unary_uses) (λ others. pure_uses (Plus, chain e.Product (e.Literal number) others)))

  additive_uses : Uses (g.AdditiveExpression P)
  additive_uses = then_uses _ _ multiplicative_uses
      (λ first. then_uses _ _ (star_uses _ (one_uses _ (or_uses _ _ sign_and_product_uses signed_product_uses))) (λ others. pure_uses (sum first others)))

  relational_uses : Uses (g.RelationalExpression P)
  relational_uses = then_uses _ _ additive_uses
      (λ left. or_uses _ _ (then_uses _ _ comparison_uses (λ operator. map_uses (e.Compare operator left) _ additive_uses)) (pure_uses left))

  and_uses : Uses (g.ConditionalAndExpression P)
  and_uses = chain_uses terminal.And e.And _ refl relational_uses

  or_expression_uses : Uses (g.ConditionalOrExpression P)
  or_expression_uses = chain_uses terminal.Or e.Or _ refl and_uses

-- ---- at each depth

expressions_use : (d : ℕ) → Uses (g.Expressions_at d)
unfolding Uses
expressions_use zero ts x us h useful = absurd h
expressions_use (suc d) ts x us h useful = or_expression_uses (g.Expressions_at d) (expressions_use d) ts x us h useful

pub constraint_uses : (d : ℕ) → Uses (g.Constraint (g.Expressions_at d))
constraint_uses d = constraint_with (g.Expressions_at d) (expressions_use d)
