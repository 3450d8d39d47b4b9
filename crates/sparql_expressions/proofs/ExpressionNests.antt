-- Where no more than so many brackets are open at once, no expression nests deeper.
use Rattle.std.proofs.Common.{◌≡◌, ℕ, zero, suc, ◌+◌, ◌-◌, ◌≤◌, List, refl, arith}
use Rattle.rdf_grammar.specs.Nesting.{open_behind}
use Rattle.rdf_grammar.specs.Derivations as grammar
use Rattle.rdf_grammar.specs.Derivations.{Then, Star}
use Rattle.rdf_grammar.specs.declared.tree.Literal.TheVariants as l
use Rattle.rdf_grammar.proofs.CallerLemmas.{Keeps, then_keeps, pure_keeps, or_keeps, map_keeps, behind_keeps, word_keeps, leaf_keeps, star_keeps, one_keeps, value_keeps, enclosed}
use Rattle.rdf_grammar.proofs.CallerLemmas as shared
use Rattle.sparql_terminals.specs.declared.terminal.Terminal.{Terminal}
use Rattle.sparql_terminals.specs.declared.terminal.Terminal.TheVariants as terminal
use Rattle.sparql_terminals.specs.Lexemes.{Derives}
use Rattle.sparql_terminals.specs.Terminals.{bracket, word}
use Rattle.sparql_terminals.proofs.CallerLemmas.{plain, kept, keeps, then_shifts, the_shifts, closed}
use Rattle.sparql_trees.specs.declared.expression.Comparison.TheVariants as c
use Rattle.sparql_trees.specs.declared.expression.Function.TheVariants as f
use Rattle.sparql_trees.specs.declared.expression.Sign.TheVariants.{Plus, Minus}
use Rattle.sparql_expressions.specs.declared.tree.Expression.{Expression}
use Rattle.sparql_expressions.specs.declared.tree.Expression.TheVariants as e
use Rattle.sparql_expressions.specs.ExpressionGrammar as g
use Rattle.sparql_expressions.specs.ExpressionReading.{chain, sum}

-- ---- words

module _ (limit b : ℕ) where
  either : {A : Type 0} (P Q R S : Derives A) → Keeps bracket limit b P Q → Keeps bracket limit b R S → Keeps bracket limit b (grammar.◌∣◌ P R) (grammar.◌∣◌ Q S)
  either = or_keeps bracket limit b

  closed_word : {A : Type 0} (k : Terminal) (x : A) → open_behind bracket b k ≡ b → Keeps bracket limit b (grammar.◌>>◌ (grammar.the k) (grammar.pure x)) (grammar.◌>>◌ (grammar.the k) (grammar.pure x))
  closed_word k x e = word_keeps bracket limit b k x e

  comparison_keeps : Keeps bracket limit b g.AComparison g.AComparison
  comparison_keeps =
      either _ _ _ _ (closed_word terminal.Equal c.Equal refl) (either _ _ _ _ (closed_word terminal.NotEqual c.NotEqual refl) (either _ _ _ _ (closed_word terminal.Less c.Less refl)
      (either _ _ _ _ (closed_word terminal.Greater c.Greater refl) (either _ _ _ _ (closed_word terminal.LessOrEqual c.LessOrEqual refl) (closed_word terminal.GreaterOrEqual c.GreaterOrEqual refl)))))

  sign_keeps : Keeps bracket limit b g.ASign g.ASign
  sign_keeps = either _ _ _ _ (closed_word terminal.Plus Plus refl) (closed_word terminal.Minus Minus refl)

  function_keeps : Keeps bracket limit b g.AFunction g.AFunction
  function_keeps =
      either _ _ _ _ (closed_word terminal.IsIri f.IsIri refl) (either _ _ _ _ (closed_word terminal.IsUri f.IsIri refl) (either _ _ _ _ (closed_word terminal.IsBlank f.IsBlank refl)
      (either _ _ _ _ (closed_word terminal.IsLiteral f.IsLiteral refl) (either _ _ _ _ (closed_word terminal.Str f.Str refl)
      (either _ _ _ _ (closed_word terminal.Lang f.Lang refl) (closed_word terminal.Datatype f.Datatype refl))))))

  signed_keeps : Keeps bracket limit b g.SignedNumber g.SignedNumber
  signed_keeps = either _ _ _ _ (leaf_keeps bracket limit b l.Integer terminal.SignedInteger refl)
      (either _ _ _ _ (leaf_keeps bracket limit b l.Decimal terminal.SignedDecimal refl) (leaf_keeps bracket limit b l.Double terminal.SignedDouble refl))

  bound_keeps : Keeps bracket limit b g.Bound g.Bound
  bound_keeps = behind_keeps bracket limit b terminal.Bound _ _ refl
      (enclosed bracket limit b terminal.Open terminal.Close (grammar.value terminal.Variable) (grammar.value terminal.Variable) (λ name. grammar.pure (e.Bound name)) refl (omega arith)
      (value_keeps bracket limit (b + 1) terminal.Variable refl) (λ a ts x us d. d.1))

-- ---- over grammars of what stands in parentheses

module _ (limit b : ℕ) (P Q : Derives Expression) (p : Keeps bracket limit (b + 1) P Q) where
  abbrev Kept : {A : Type 0} → Derives A → Derives A → Type 0
  Kept = Keeps bracket limit b

  bracketted_keeps : Kept (g.BrackettedExpression P) (g.BrackettedExpression Q)
  bracketted_keeps = enclosed bracket limit b terminal.Open terminal.Close P Q (λ inner. grammar.pure inner) refl (omega arith) p (λ a ts x us d. d.1)

  same_term_keeps : Kept (g.SameTerm P) (g.SameTerm Q)
  same_term_keeps = behind_keeps bracket limit b terminal.SameTerm _ _ refl (keeps limit b _ _
      (then_shifts limit b (b + 1) b _ _ _ _ (the_shifts limit b (b + 1) terminal.Open refl) (λ _. then_shifts limit (b + 1) (b + 1) b _ _ _ _ (kept limit (b + 1) _ _ p)
      (λ left. then_shifts limit (b + 1) (b + 1) b _ _ _ _ (the_shifts limit (b + 1) (b + 1) terminal.Comma refl)
      (λ _. then_shifts limit (b + 1) (b + 1) b _ _ _ _ (kept limit (b + 1) _ _ p) (λ right. closed limit b terminal.Close (e.SameTerm left right) (omega arith)))))))

  function_call_keeps : Kept (g.FunctionCall P) (g.FunctionCall Q)
  function_call_keeps = then_keeps bracket limit b _ _ _ _ (function_keeps limit b) (λ function. map_keeps bracket limit b (e.Call function) _ _ bracketted_keeps)

  call_keeps : Kept (g.BuiltInCall P) (g.BuiltInCall Q)
  call_keeps = either limit b _ _ _ _ (bound_keeps limit b) (either limit b _ _ _ _ same_term_keeps function_call_keeps)

  constraint_keeps_with : Kept (g.Constraint P) (g.Constraint Q)
  constraint_keeps_with = either limit b _ _ _ _ bracketted_keeps call_keeps

  primary_keeps : Kept (g.PrimaryExpression P) (g.PrimaryExpression Q)
  primary_keeps =
      either limit b _ _ _ _ bracketted_keeps (either limit b _ _ _ _ call_keeps (either limit b _ _ _ _ (map_keeps bracket limit b e.Name _ _ (shared.iri_keeps word bracket plain limit b))
      (either limit b _ _ _ _ (map_keeps bracket limit b e.Literal _ _ (shared.literal_keeps word bracket plain limit b)) (leaf_keeps bracket limit b e.Variable terminal.Variable refl))))

  unary_keeps : Kept (g.UnaryExpression P) (g.UnaryExpression Q)
  unary_keeps =
      either limit b _ _ _ _ (behind_keeps bracket limit b terminal.Not _ _ refl (map_keeps bracket limit b e.Not _ _ primary_keeps))
      (either limit b _ _ _ _ (behind_keeps bracket limit b terminal.Plus _ _ refl (map_keeps bracket limit b (e.Signed Plus) _ _ primary_keeps))
      (either limit b _ _ _ _ (behind_keeps bracket limit b terminal.Minus _ _ refl (map_keeps bracket limit b (e.Signed Minus) _ _ primary_keeps)) primary_keeps))

  -- ( an operator R )*
  behind_each : (k : Terminal) (R S : Derives Expression) → open_behind bracket b k ≡ b → Kept R S → Kept (Star (grammar.one (grammar.◌>>◌ (grammar.the k) R))) (Star (grammar.one (grammar.◌>>◌ (grammar.the k) S)))
  behind_each k R S plain r = star_keeps bracket limit b _ _ (one_keeps bracket limit b _ _ (behind_keeps bracket limit b k R S plain r))

  abbrev Chain : Terminal → (List Expression → Expression) → Derives Expression → Derives Expression
  Chain k node R = Then R (λ first. Then (Star (grammar.one (grammar.◌>>◌ (grammar.the k) R))) (λ others. grammar.pure (chain node first others)))

  chain_keeps : (k : Terminal) (node : List Expression → Expression) (R S : Derives Expression) → open_behind bracket b k ≡ b → Kept R S → Kept (Chain k node R) (Chain k node S)
  chain_keeps k node R S plain r = then_keeps bracket limit b _ _ _ _ r (λ first. then_keeps bracket limit b _ _ _ _ (behind_each k R S plain r) (λ others. pure_keeps bracket limit b (chain node first others)))

  multiplicative_keeps : Kept (g.MultiplicativeExpression P) (g.MultiplicativeExpression Q)
  multiplicative_keeps = chain_keeps terminal.Star e.Product _ _ refl unary_keeps

  sign_and_product_keeps : Kept (g.SignAndProduct P) (g.SignAndProduct Q)
  sign_and_product_keeps = then_keeps bracket limit b _ _ _ _ (sign_keeps limit b) (λ sign. then_keeps bracket limit b _ _ _ _ multiplicative_keeps (λ x. pure_keeps bracket limit b (sign, x)))

  signed_product_keeps : Kept (g.SignedProduct P) (g.SignedProduct Q)
  signed_product_keeps = then_keeps bracket limit b _ _ _ _ (signed_keeps limit b)
      (λ number. then_keeps bracket limit b _ _ _ _ (behind_each terminal.Star _ _ refl unary_keeps) (λ others. pure_keeps bracket limit b (Plus, chain e.Product (e.Literal number) others)))

  additive_keeps : Kept (g.AdditiveExpression P) (g.AdditiveExpression Q)
  additive_keeps = then_keeps bracket limit b _ _ _ _ multiplicative_keeps
      (λ first. then_keeps bracket limit b _ _ _ _ (star_keeps bracket limit b _ _ (one_keeps bracket limit b _ _ (either limit b _ _ _ _ sign_and_product_keeps signed_product_keeps))) (λ others. pure_keeps bracket limit b (sum first others)))

  relational_keeps : Kept (g.RelationalExpression P) (g.RelationalExpression Q)
  relational_keeps = then_keeps bracket limit b _ _ _ _ additive_keeps
      (λ left. either limit b _ _ _ _ (then_keeps bracket limit b _ _ _ _ (comparison_keeps limit b) (λ operator. map_keeps bracket limit b (e.Compare operator left) _ _ additive_keeps)) (pure_keeps bracket limit b left))

  and_keeps : Kept (g.ConditionalAndExpression P) (g.ConditionalAndExpression Q)
  and_keeps = chain_keeps terminal.And e.And _ _ refl relational_keeps

  or_expression_keeps : Kept (g.ConditionalOrExpression P) (g.ConditionalOrExpression Q)
  or_expression_keeps = chain_keeps terminal.Or e.Or _ _ refl and_keeps

-- ---- at each depth

expressions_keep : (limit d b : ℕ) → Keeps bracket limit b (g.Expressions_at d) (g.Expressions_at (suc limit - b))
unfolding Keeps
expressions_keep limit zero b ts x us h below = absurd h
expressions_keep limit (suc d) b ts x us h below =
    let some : b ≤ limit = below.at 0 in
    let i : suc limit - (b + 1) ≡ limit - b = omega arith in
    let inside : Keeps bracket limit (b + 1) (g.Expressions_at d) (g.Expressions_at (limit - b)) = rw i at (expressions_keep limit d (b + 1)) in
    let m : suc limit - b ≡ suc (limit - b) = omega arith in
    rw m (or_expression_keeps limit b (g.Expressions_at d) (g.Expressions_at (limit - b)) inside ts x us h below)

-- What stands behind FILTER with b brackets open, derived at any depth, is derived at the depth that the limit leaves.
pub constraint_keeps : (limit d b : ℕ) → Keeps bracket limit b (g.Constraint (g.Expressions_at d)) (g.Constraint (g.Expressions_at (limit - b)))
constraint_keeps limit d b =
    let i : suc limit - (b + 1) ≡ limit - b = omega arith in
    let inside : Keeps bracket limit (b + 1) (g.Expressions_at d) (g.Expressions_at (limit - b)) = rw i at (expressions_keep limit d (b + 1)) in
    constraint_keeps_with limit b (g.Expressions_at d) (g.Expressions_at (limit - b)) inside
