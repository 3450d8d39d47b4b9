-- Expressions that are derived of formed lexemes are proper.
use Rattle.std.proofs.Common.{◌≡◌, ◌∙◌, refl, ℕ, zero, suc, Bool, true, List, [], ◌∷◌, map}
use Rattle.std.proofs.lemmas.Bool.{and_from}
use Rattle.std.specs.List.{list_all, AllByRecursion}
use Rattle.rdf_grammar.specs.Derivations as grammar
use Rattle.rdf_grammar.specs.Derivations.{Star}
use Rattle.rdf_grammar.specs.declared.tree.Literal.{Literal}
use Rattle.rdf_grammar.specs.declared.tree.Literal.TheVariants as l
use Rattle.rdf_grammar.specs.Literals.{proper_literal}
use Rattle.sparql_terminals.specs.declared.terminal.Terminal.{Terminal}
use Rattle.sparql_terminals.specs.declared.terminal.Terminal.TheVariants as terminal
use Rattle.sparql_terminals.specs.Lexemes.{Derives}
use Rattle.sparql_terminals.proofs.CallerLemmas.{Yields, Any, then_gives, pure_gives, or_gives, value_gives, map_gives, behind_gives, closed_gives, star_gives, one_gives, Passes, iri_gives, literal_gives}
use Rattle.sparql_trees.specs.declared.expression.Comparison.{Comparison}
use Rattle.sparql_trees.specs.declared.expression.Comparison.TheVariants as c
use Rattle.sparql_trees.specs.declared.expression.Function.{Function}
use Rattle.sparql_trees.specs.declared.expression.Function.TheVariants as f
use Rattle.sparql_trees.specs.declared.expression.Sign.{Sign}
use Rattle.sparql_trees.specs.declared.expression.Sign.TheVariants.{Plus, Minus}
use Rattle.sparql_expressions.specs.declared.tree.Expression.{Expression}
use Rattle.sparql_expressions.specs.declared.tree.Expression.TheVariants as e
use Rattle.sparql_expressions.specs.ExpressionGrammar as g
use Rattle.sparql_expressions.specs.ExpressionReading.{chain, sum}
use Rattle.sparql_expressions.specs.ProperExpressions.{holds, proper_expression_of, proper_expression}
use Rattle.sparql_expressions.proofs.ExpressionTrees.{by-Or, by-And, by-Compare, by-Sum, by-Product, by-Not, by-Signed, by-Variable, by-Name, by-Literal, by-Bound, by-SameTerm, by-Call}

abbrev Proper : Expression → Type 0
Proper = Passes proper_expression

abbrev AllProper : List Expression → Type 0
AllProper xs = AllByRecursion Proper xs

-- what is added or taken
abbrev ProperAddend : Sign × Expression → Type 0
ProperAddend y = Proper y.1

-- ---- trees

all_pass : (xs : List Expression) → AllProper xs → list_all holds (map proper_expression xs) ≡ true
all_pass [] all = refl
all_pass (x ∷ xs) all = and_from (proper_expression x) (list_all holds (map proper_expression xs)) all.0 (all_pass xs all.1)

addends_pass : (ys : List (Sign × Expression)) → AllByRecursion ProperAddend ys → list_all (λ (y : Sign × Bool). y.1) (map (λ (y : Sign × Expression). (y.0, proper_expression y.1)) ys) ≡ true
addends_pass [] all = refl
addends_pass (y ∷ ys) all = and_from (proper_expression y.1) (list_all (λ (z : Sign × Bool). z.1) (map (λ (z : Sign × Expression). (z.0, proper_expression z.1)) ys)) all.0 (addends_pass ys all.1)

good_or : (xs : List Expression) → AllProper xs → Proper (e.Or xs)
good_or xs all = by-Or proper_expression_of xs ∙ all_pass xs all

good_and : (xs : List Expression) → AllProper xs → Proper (e.And xs)
good_and xs all = by-And proper_expression_of xs ∙ all_pass xs all

good_product : (xs : List Expression) → AllProper xs → Proper (e.Product xs)
good_product xs all = by-Product proper_expression_of xs ∙ all_pass xs all

good_chain : (node : List Expression → Expression) → ((xs : List Expression) → AllProper xs → Proper (node xs)) → (first : Expression) (others : List Expression) → Proper first → AllProper others → Proper (chain node first others)
good_chain node good first [] h all = h
good_chain node good first (x ∷ xs) h all = good (first ∷ x ∷ xs) (h, all)

good_sum : (first : Expression) (others : List (Sign × Expression)) → Proper first → AllByRecursion ProperAddend others → Proper (sum first others)
good_sum first [] h all = h
good_sum first (y ∷ ys) h all = by-Sum proper_expression_of first (y ∷ ys) ∙ and_from (proper_expression first) _ h (addends_pass (y ∷ ys) all)

good_compare : (operator : Comparison) (x y : Expression) → Proper x → Proper y → Proper (e.Compare operator x y)
good_compare operator x y h j = by-Compare proper_expression_of operator x y ∙ and_from (proper_expression x) (proper_expression y) h j

good_same : (x y : Expression) → Proper x → Proper y → Proper (e.SameTerm x y)
good_same x y h j = by-SameTerm proper_expression_of x y ∙ and_from (proper_expression x) (proper_expression y) h j

good_not : (x : Expression) → Proper x → Proper (e.Not x)
good_not x h = by-Not proper_expression_of x ∙ h

good_signed : (sign : Sign) (x : Expression) → Proper x → Proper (e.Signed sign x)
good_signed sign x h = by-Signed proper_expression_of sign x ∙ h

good_call : (function : Function) (x : Expression) → Proper x → Proper (e.Call function x)
good_call function x h = by-Call proper_expression_of function x ∙ h

good_literal : (literal : Literal) → Passes proper_literal literal → Proper (e.Literal literal)
good_literal literal h = by-Literal proper_expression_of literal ∙ h

-- ---- words

comparison_gives : Yields g.AComparison Any
comparison_gives =
    or_gives _ _ Any (closed_gives terminal.Equal c.Equal Any tt) (or_gives _ _ Any (closed_gives terminal.NotEqual c.NotEqual Any tt) (or_gives _ _ Any (closed_gives terminal.Less c.Less Any tt)
    (or_gives _ _ Any (closed_gives terminal.Greater c.Greater Any tt) (or_gives _ _ Any (closed_gives terminal.LessOrEqual c.LessOrEqual Any tt) (closed_gives terminal.GreaterOrEqual c.GreaterOrEqual Any tt)))))

sign_gives : Yields g.ASign Any
sign_gives = or_gives _ _ Any (closed_gives terminal.Plus Plus Any tt) (closed_gives terminal.Minus Minus Any tt)

function_gives : Yields g.AFunction Any
function_gives =
    or_gives _ _ Any (closed_gives terminal.IsIri f.IsIri Any tt) (or_gives _ _ Any (closed_gives terminal.IsUri f.IsIri Any tt) (or_gives _ _ Any (closed_gives terminal.IsBlank f.IsBlank Any tt)
    (or_gives _ _ Any (closed_gives terminal.IsLiteral f.IsLiteral Any tt) (or_gives _ _ Any (closed_gives terminal.Str f.Str Any tt)
    (or_gives _ _ Any (closed_gives terminal.Lang f.Lang Any tt) (closed_gives terminal.Datatype f.Datatype Any tt))))))

signed_gives : Yields g.SignedNumber (Passes proper_literal)
signed_gives = or_gives _ _ (Passes proper_literal) (map_gives l.Integer _ _ (Passes proper_literal) (value_gives terminal.SignedInteger) (λ a h. refl))
    (or_gives _ _ (Passes proper_literal) (map_gives l.Decimal _ _ (Passes proper_literal) (value_gives terminal.SignedDecimal) (λ a h. refl))
    (map_gives l.Double _ _ (Passes proper_literal) (value_gives terminal.SignedDouble) (λ a h. refl)))

bound_gives : Yields g.Bound Proper
bound_gives =
    behind_gives terminal.Bound _ Proper (behind_gives terminal.Open _ Proper
    (then_gives _ _ _ Proper (value_gives terminal.Variable) (λ name h. closed_gives terminal.Close (e.Bound name) Proper (by-Bound proper_expression_of name))))

-- ---- over a grammar of what stands in parentheses

module _ (Expression' : Derives Expression) (inside : Yields Expression' Proper) where
  bracketted_gives : Yields (g.BrackettedExpression Expression') Proper
  bracketted_gives = behind_gives terminal.Open _ Proper (then_gives _ _ Proper Proper inside (λ x h. closed_gives terminal.Close x Proper h))

  same_term_gives : Yields (g.SameTerm Expression') Proper
  same_term_gives =
      behind_gives terminal.SameTerm _ Proper (behind_gives terminal.Open _ Proper (then_gives _ _ Proper Proper inside
      (λ x h. behind_gives terminal.Comma _ Proper (then_gives _ _ Proper Proper inside (λ y j. closed_gives terminal.Close (e.SameTerm x y) Proper (good_same x y h j))))))

  function_call_gives : Yields (g.FunctionCall Expression') Proper
  function_call_gives = then_gives _ _ Any Proper function_gives (λ function _. map_gives (e.Call function) _ Proper Proper bracketted_gives (good_call function))

  call_gives : Yields (g.BuiltInCall Expression') Proper
  call_gives = or_gives _ _ Proper bound_gives (or_gives _ _ Proper same_term_gives function_call_gives)

  pub constraint_gives_with : Yields (g.Constraint Expression') Proper
  constraint_gives_with = or_gives _ _ Proper bracketted_gives call_gives

  primary_gives : Yields (g.PrimaryExpression Expression') Proper
  primary_gives =
      or_gives _ _ Proper bracketted_gives (or_gives _ _ Proper call_gives (or_gives _ _ Proper (map_gives e.Name _ _ Proper iri_gives (λ name h. by-Name proper_expression_of name ∙ h))
      (or_gives _ _ Proper (map_gives e.Literal _ _ Proper literal_gives good_literal) (map_gives e.Variable _ _ Proper (value_gives terminal.Variable) (λ name h. by-Variable proper_expression_of name)))))

  unary_gives : Yields (g.UnaryExpression Expression') Proper
  unary_gives =
      or_gives _ _ Proper (behind_gives terminal.Not _ Proper (map_gives e.Not _ Proper Proper primary_gives good_not))
      (or_gives _ _ Proper (behind_gives terminal.Plus _ Proper (map_gives (e.Signed Plus) _ Proper Proper primary_gives (good_signed Plus)))
      (or_gives _ _ Proper (behind_gives terminal.Minus _ Proper (map_gives (e.Signed Minus) _ Proper Proper primary_gives (good_signed Minus))) primary_gives))

  -- ( an operator P )*
  behind_each : (k : Terminal) (P : Derives Expression) → Yields P Proper → Yields (Star (grammar.one (grammar.◌>>◌ (grammar.the k) P))) AllProper
  behind_each k P p = star_gives _ Proper (one_gives _ Proper (behind_gives k P Proper p))

  chain_gives : (k : Terminal) (node : List Expression → Expression) → ((xs : List Expression) → AllProper xs → Proper (node xs)) → (P : Derives Expression) → Yields P Proper
      → Yields (grammar.◌>>=◌ P (λ first. grammar.◌>>=◌ (Star (grammar.one (grammar.◌>>◌ (grammar.the k) P))) (λ others. grammar.pure (chain node first others)))) Proper
  chain_gives k node good P p =
      then_gives _ _ Proper Proper p (λ first h. then_gives _ _ AllProper Proper (behind_each k P p) (λ others hs. pure_gives (chain node first others) Proper (good_chain node good first others h hs)))

  multiplicative_gives : Yields (g.MultiplicativeExpression Expression') Proper
  multiplicative_gives = chain_gives terminal.Star e.Product good_product _ unary_gives

  sign_and_product_gives : Yields (g.SignAndProduct Expression') ProperAddend
  sign_and_product_gives = then_gives _ _ Any ProperAddend sign_gives (λ sign _. then_gives _ _ Proper ProperAddend multiplicative_gives (λ x h. pure_gives (sign, x) ProperAddend h))

  signed_product_gives : Yields (g.SignedProduct Expression') ProperAddend
  signed_product_gives =
      then_gives _ _ (Passes proper_literal) ProperAddend signed_gives (λ number h. then_gives _ _ AllProper ProperAddend (behind_each terminal.Star _ unary_gives)
      (λ others hs. pure_gives (Plus, chain e.Product (e.Literal number) others) ProperAddend (good_chain e.Product good_product (e.Literal number) others (good_literal number h) hs)))

  additive_gives : Yields (g.AdditiveExpression Expression') Proper
  additive_gives =
      then_gives _ _ Proper Proper multiplicative_gives
      (λ first h. then_gives _ _ (AllByRecursion ProperAddend) Proper (star_gives _ ProperAddend (one_gives _ ProperAddend (or_gives _ _ ProperAddend sign_and_product_gives signed_product_gives)))
      (λ others hs. pure_gives (sum first others) Proper (good_sum first others h hs)))

  relational_gives : Yields (g.RelationalExpression Expression') Proper
  relational_gives =
      then_gives _ _ Proper Proper additive_gives
      (λ left h. or_gives _ _ Proper (then_gives _ _ Any Proper comparison_gives (λ operator _. map_gives (e.Compare operator left) _ Proper Proper additive_gives (λ right j. good_compare operator left right h j))) (pure_gives left Proper h))

  and_gives : Yields (g.ConditionalAndExpression Expression') Proper
  and_gives = chain_gives terminal.And e.And good_and _ relational_gives

  or_expression_gives : Yields (g.ConditionalOrExpression Expression') Proper
  or_expression_gives = chain_gives terminal.Or e.Or good_or _ and_gives

expression_gives : (depth : ℕ) → Yields (g.Expressions_at depth) Proper
unfolding Yields
expression_gives zero ts x us d formed = absurd d
expression_gives (suc depth) ts x us d formed = or_expression_gives (g.Expressions_at depth) (expression_gives depth) ts x us d formed

pub constraint_gives : (depth : ℕ) → Yields (g.Constraint (g.Expressions_at depth)) (Passes proper_expression)
constraint_gives depth = constraint_gives_with (g.Expressions_at depth) (expression_gives depth)
