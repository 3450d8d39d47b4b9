-- Expressions, and the names that their lexemes carry.
use Rattle.std.proofs.Common.{◌≡◌, ◌∙◌, ap, refl, sym, ℕ, zero, suc, Bool, true, ◌&&◌, List, [], ◌∷◌, map}
use Rattle.std.specs.List.{list_all}
use Rattle.rdf_grammar.specs.Derivations as grammar
use Rattle.rdf_grammar.specs.Derivations.{Star}
use Rattle.rdf_grammar.specs.Holds.{holds}
use Rattle.rdf_grammar.specs.Terminals.{Slice}
use Rattle.rdf_grammar.specs.declared.tree.Literal.{Literal}
use Rattle.rdf_grammar.specs.declared.tree.Literal.TheVariants as l
use Rattle.rdf_grammar.specs.declared.tree.Name.{Name}
use Rattle.sparql_terminals.specs.declared.terminal.Terminal.{Terminal}
use Rattle.sparql_terminals.specs.declared.terminal.Terminal.TheVariants as terminal
use Rattle.sparql_terminals.specs.Lexemes.{Derives}
use Rattle.sparql_trees.specs.declared.expression.Comparison.{Comparison}
use Rattle.sparql_trees.specs.declared.expression.Comparison.TheVariants as c
use Rattle.sparql_trees.specs.declared.expression.Function.{Function}
use Rattle.sparql_trees.specs.declared.expression.Function.TheVariants as f
use Rattle.sparql_trees.specs.declared.expression.Sign.{Sign}
use Rattle.sparql_trees.specs.declared.expression.Sign.TheVariants.{Plus, Minus}
use Rattle.sparql_expressions.specs.declared.tree.Expression.{Expression}
use Rattle.sparql_expressions.specs.declared.tree.Expression.TheVariants as e
use Rattle.sparql_expressions.specs.declared.tree.Expression.TheOpen.{Expression-F}
use Rattle.sparql_expressions.specs.declared.tree.Expression.TheFolds.{fold-Expression, fold-roll-Expression}
use Rattle.sparql_expressions.specs.ExpressionGrammar as g
use Rattle.sparql_expressions.specs.ExpressionReading.{chain, sum}
use Rattle.sparql_syntax.proofs.NameFronts.{Ask, Value, Gives, start, then_gives, pure_gives, or_gives, map_gives, behind_gives, closed_gives, sign_gives, later_gives, lists, star_gives, one_gives, each_gives}
use Rattle.sparql_syntax.proofs.NameFronts as fronts
use Rattle.sparql_syntax.proofs.NameWords.{each_literal, name_value, literal_value, iri_gives, literal_gives}

-- of each name in an expression
module _ (q : Ask) where
  abbrev pub each_expression_of : Expression-F Bool → Bool
  each_expression_of (Expression-F.Or operands) = list_all holds operands
  each_expression_of (Expression-F.And operands) = list_all holds operands
  each_expression_of (Expression-F.Compare operator left right) = left && right
  each_expression_of (Expression-F.Sum first addends) = first && list_all (λ addend. addend.1) addends
  each_expression_of (Expression-F.Product operands) = list_all holds operands
  each_expression_of (Expression-F.Not operand) = operand
  each_expression_of (Expression-F.Signed sign operand) = operand
  each_expression_of (Expression-F.Variable variable) = true
  each_expression_of (Expression-F.Name name) = q.name name
  each_expression_of (Expression-F.Literal literal) = each_literal q literal
  each_expression_of (Expression-F.Bound variable) = true
  each_expression_of (Expression-F.SameTerm left right) = left && right
  each_expression_of (Expression-F.Call function operand) = operand

  abbrev pub each_expression : Expression → Bool
  each_expression = fold-Expression Bool each_expression_of

-- ---- expressions by what they are

module _ {A : Type 0} (f : Expression-F A → A) where
  abbrev of : Expression → A
  of = fold-Expression A f

  pub by-Or : (xs : List Expression) → of (e.Or xs) ≡ f (Expression-F.Or (map of xs))
  by-Or xs = ap of (sym (e.rolls-Or xs)) ∙ fold-roll-Expression A f (Expression-F.Or xs)

  pub by-And : (xs : List Expression) → of (e.And xs) ≡ f (Expression-F.And (map of xs))
  by-And xs = ap of (sym (e.rolls-And xs)) ∙ fold-roll-Expression A f (Expression-F.And xs)

  pub by-Compare : (operator : Comparison) (x y : Expression) → of (e.Compare operator x y) ≡ f (Expression-F.Compare operator (of x) (of y))
  by-Compare operator x y = ap of (sym (e.rolls-Compare operator x y)) ∙ fold-roll-Expression A f (Expression-F.Compare operator x y)

  pub by-Sum : (x : Expression) (ys : List (Sign × Expression)) → of (e.Sum x ys) ≡ f (Expression-F.Sum (of x) (map (λ y. (y.0, of y.1)) ys))
  by-Sum x ys = ap of (sym (e.rolls-Sum x ys)) ∙ fold-roll-Expression A f (Expression-F.Sum x ys)

  pub by-Product : (xs : List Expression) → of (e.Product xs) ≡ f (Expression-F.Product (map of xs))
  by-Product xs = ap of (sym (e.rolls-Product xs)) ∙ fold-roll-Expression A f (Expression-F.Product xs)

  pub by-Not : (x : Expression) → of (e.Not x) ≡ f (Expression-F.Not (of x))
  by-Not x = ap of (sym (e.rolls-Not x)) ∙ fold-roll-Expression A f (Expression-F.Not x)

  pub by-Signed : (sign : Sign) (x : Expression) → of (e.Signed sign x) ≡ f (Expression-F.Signed sign (of x))
  by-Signed sign x = ap of (sym (e.rolls-Signed sign x)) ∙ fold-roll-Expression A f (Expression-F.Signed sign x)

  pub by-Variable : (name : Slice) → of (e.Variable name) ≡ f (Expression-F.Variable name)
  by-Variable name = ap of (sym (e.rolls-Variable name)) ∙ fold-roll-Expression A f (Expression-F.Variable name)

  pub by-Name : (name : Name) → of (e.Name name) ≡ f (Expression-F.Name name)
  by-Name name = ap of (sym (e.rolls-Name name)) ∙ fold-roll-Expression A f (Expression-F.Name name)

  pub by-Literal : (literal : Literal) → of (e.Literal literal) ≡ f (Expression-F.Literal literal)
  by-Literal literal = ap of (sym (e.rolls-Literal literal)) ∙ fold-roll-Expression A f (Expression-F.Literal literal)

  pub by-Bound : (name : Slice) → of (e.Bound name) ≡ f (Expression-F.Bound name)
  by-Bound name = ap of (sym (e.rolls-Bound name)) ∙ fold-roll-Expression A f (Expression-F.Bound name)

  pub by-SameTerm : (x y : Expression) → of (e.SameTerm x y) ≡ f (Expression-F.SameTerm (of x) (of y))
  by-SameTerm x y = ap of (sym (e.rolls-SameTerm x y)) ∙ fold-roll-Expression A f (Expression-F.SameTerm x y)

  pub by-Call : (function : Function) (x : Expression) → of (e.Call function x) ≡ f (Expression-F.Call function (of x))
  by-Call function x = ap of (sym (e.rolls-Call function x)) ∙ fold-roll-Expression A f (Expression-F.Call function x)

-- ---- trees

abbrev pub expression_value : Expression → Value
expression_value x q = each_expression q x

abbrev pub addend_value : Sign × Expression → Value
addend_value y q = each_expression q y.1

addends_are : (ys : List (Sign × Expression)) (q : Ask) → list_all (λ (y : Sign × Bool). y.1) (map (λ (y : Sign × Expression). (y.0, each_expression q y.1)) ys) ≡ lists addend_value ys q
addends_are [] q = refl
addends_are (y ∷ ys) q = ap (λ (b : Bool). each_expression q y.1 && b) (addends_are ys q)

abbrev Joins : (List Expression → Expression) → Type 0
Joins node = (xs : List Expression) (q : Ask) → each_expression q (node xs) ≡ lists expression_value xs q

or_joins : Joins e.Or
or_joins xs q = by-Or (each_expression_of q) xs

and_joins : Joins e.And
and_joins xs q = by-And (each_expression_of q) xs

product_joins : Joins e.Product
product_joins xs q = by-Product (each_expression_of q) xs

chain_is : (node : List Expression → Expression) → Joins node → (first : Expression) (others : List Expression) (q : Ask)
    → each_expression q first && lists expression_value others q ≡ each_expression q (chain node first others)
chain_is node joins first [] q = fronts.and_true (each_expression q first)
chain_is node joins first (x ∷ xs) q = sym (joins (first ∷ x ∷ xs) q)

sum_is : (first : Expression) (others : List (Sign × Expression)) (q : Ask) → each_expression q first && lists addend_value others q ≡ each_expression q (sum first others)
sum_is first [] q = fronts.and_true (each_expression q first)
sum_is first (y ∷ ys) q = ap (λ (b : Bool). each_expression q first && b) (sym (addends_are (y ∷ ys) q)) ∙ sym (by-Sum (each_expression_of q) first (y ∷ ys))

-- ---- words

abbrev Quiet : {A : Type 0} → Derives A → Type 0
Quiet {A} P = Gives start P (λ (_ : A). start)

comparison_gives : Quiet g.AComparison
comparison_gives =
    or_gives _ _ start _ (word terminal.Equal c.Equal (refl, λ q text. refl)) (or_gives _ _ start _ (word terminal.NotEqual c.NotEqual (refl, λ q text. refl)) (or_gives _ _ start _ (word terminal.Less c.Less (refl, λ q text. refl))
    (or_gives _ _ start _ (word terminal.Greater c.Greater (refl, λ q text. refl)) (or_gives _ _ start _ (word terminal.LessOrEqual c.LessOrEqual (refl, λ q text. refl)) (word terminal.GreaterOrEqual c.GreaterOrEqual (refl, λ q text. refl))))))
  where
    word : (k : Terminal) (x : Comparison) → fronts.Sign k → Quiet (grammar.◌>>◌ (grammar.the k) (grammar.pure x))
    word k x sign = closed_gives k x start _ sign (λ q. refl)

sign_word_gives : Quiet g.ASign
sign_word_gives = or_gives _ _ start _ (closed_gives terminal.Plus Plus start _ (refl, λ q text. refl) (λ q. refl)) (closed_gives terminal.Minus Minus start _ (refl, λ q text. refl) (λ q. refl))

function_gives : Quiet g.AFunction
function_gives =
    or_gives _ _ start _ (word terminal.IsIri f.IsIri (refl, λ q text. refl)) (or_gives _ _ start _ (word terminal.IsUri f.IsIri (refl, λ q text. refl)) (or_gives _ _ start _ (word terminal.IsBlank f.IsBlank (refl, λ q text. refl))
    (or_gives _ _ start _ (word terminal.IsLiteral f.IsLiteral (refl, λ q text. refl)) (or_gives _ _ start _ (word terminal.Str f.Str (refl, λ q text. refl))
    (or_gives _ _ start _ (word terminal.Lang f.Lang (refl, λ q text. refl)) (word terminal.Datatype f.Datatype (refl, λ q text. refl)))))))
  where
    word : (k : Terminal) (x : Function) → fronts.Sign k → Quiet (grammar.◌>>◌ (grammar.the k) (grammar.pure x))
    word k x sign = closed_gives k x start _ sign (λ q. refl)

signed_gives : Gives start g.SignedNumber literal_value
signed_gives = or_gives _ _ start literal_value (map_gives l.Integer _ start (λ _. start) literal_value (sign_gives terminal.SignedInteger start (refl, λ q text. refl)) (λ a q. refl))
    (or_gives _ _ start literal_value (map_gives l.Decimal _ start (λ _. start) literal_value (sign_gives terminal.SignedDecimal start (refl, λ q text. refl)) (λ a q. refl))
    (map_gives l.Double _ start (λ _. start) literal_value (sign_gives terminal.SignedDouble start (refl, λ q text. refl)) (λ a q. refl)))

bound_gives : Gives start g.Bound expression_value
bound_gives =
    behind_gives terminal.Bound _ start expression_value (refl, λ q text. refl) (behind_gives terminal.Open _ start expression_value (refl, λ q text. refl)
    (then_gives _ _ start (λ _. start) expression_value (sign_gives terminal.Variable start (refl, λ q text. refl))
    (λ name. closed_gives terminal.Close (e.Bound name) start expression_value (refl, λ q text. refl) (λ q. sym (by-Bound (each_expression_of q) name)))))

-- ---- over a grammar of what stands in parentheses

module _ (Expression' : Derives Expression) (inside : Gives start Expression' expression_value) where
  bracketted_gives : Gives start (g.BrackettedExpression Expression') expression_value
  bracketted_gives = behind_gives terminal.Open _ start expression_value (refl, λ q text. refl)
      (then_gives _ _ start expression_value expression_value inside (λ x. closed_gives terminal.Close x (expression_value x) expression_value (refl, λ q text. refl) (λ q. refl)))

  same_term_gives : Gives start (g.SameTerm Expression') expression_value
  same_term_gives =
      behind_gives terminal.SameTerm _ start expression_value (refl, λ q text. refl) (behind_gives terminal.Open _ start expression_value (refl, λ q text. refl)
      (then_gives _ _ start expression_value expression_value inside
      (λ x. behind_gives terminal.Comma _ (expression_value x) expression_value (refl, λ q text. refl)
      (then_gives _ _ (expression_value x) (λ y q. each_expression q x && each_expression q y) expression_value (later_gives Expression' (expression_value x) expression_value inside)
      (λ y. closed_gives terminal.Close (e.SameTerm x y) _ expression_value (refl, λ q text. refl) (λ q. sym (by-SameTerm (each_expression_of q) x y)))))))

  function_call_gives : Gives start (g.FunctionCall Expression') expression_value
  function_call_gives = then_gives _ _ start (λ _. start) expression_value function_gives
      (λ function. map_gives (e.Call function) _ start expression_value expression_value bracketted_gives (λ x q. sym (by-Call (each_expression_of q) function x)))

  call_gives : Gives start (g.BuiltInCall Expression') expression_value
  call_gives = or_gives _ _ start expression_value bound_gives (or_gives _ _ start expression_value same_term_gives function_call_gives)

  pub constraint_gives_with : Gives start (g.Constraint Expression') expression_value
  constraint_gives_with = or_gives _ _ start expression_value bracketted_gives call_gives

  primary_gives : Gives start (g.PrimaryExpression Expression') expression_value
  primary_gives =
      or_gives _ _ start expression_value bracketted_gives (or_gives _ _ start expression_value call_gives
      (or_gives _ _ start expression_value (map_gives e.Name _ start name_value expression_value iri_gives (λ name q. sym (by-Name (each_expression_of q) name)))
      (or_gives _ _ start expression_value (map_gives e.Literal _ start literal_value expression_value literal_gives (λ x q. sym (by-Literal (each_expression_of q) x)))
      (map_gives e.Variable _ start (λ _. start) expression_value (sign_gives terminal.Variable start (refl, λ q text. refl)) (λ name q. sym (by-Variable (each_expression_of q) name))))))

  unary_gives : Gives start (g.UnaryExpression Expression') expression_value
  unary_gives =
      or_gives _ _ start expression_value (behind_gives terminal.Not _ start expression_value (refl, λ q text. refl) (map_gives e.Not _ start expression_value expression_value primary_gives (λ x q. sym (by-Not (each_expression_of q) x))))
      (or_gives _ _ start expression_value (behind_gives terminal.Plus _ start expression_value (refl, λ q text. refl)
      (map_gives (e.Signed Plus) _ start expression_value expression_value primary_gives (λ x q. sym (by-Signed (each_expression_of q) Plus x))))
      (or_gives _ _ start expression_value (behind_gives terminal.Minus _ start expression_value (refl, λ q text. refl)
      (map_gives (e.Signed Minus) _ start expression_value expression_value primary_gives (λ x q. sym (by-Signed (each_expression_of q) Minus x)))) primary_gives))

  chain_gives : (k : Terminal) (node : List Expression → Expression) → fronts.Sign k → Joins node → (P : Derives Expression) → Gives start P expression_value
      → Gives start (grammar.◌>>=◌ P (λ first. grammar.◌>>=◌ (grammar.EachBehind k P) (λ others. grammar.pure (chain node first others)))) expression_value
  chain_gives k node sign joins P p =
      then_gives _ _ start expression_value expression_value p
      (λ first. then_gives _ _ (expression_value first) (λ xs q. each_expression q first && lists expression_value xs q) expression_value
      (later_gives _ (expression_value first) (lists expression_value) (each_gives k P expression_value sign p))
      (λ others. pure_gives (chain node first others) _ expression_value (chain_is node joins first others)))

  multiplicative_gives : Gives start (g.MultiplicativeExpression Expression') expression_value
  multiplicative_gives = chain_gives terminal.Star e.Product (refl, λ q text. refl) product_joins _ unary_gives

  sign_and_product_gives : Gives start (g.SignAndProduct Expression') addend_value
  sign_and_product_gives = then_gives _ _ start (λ _. start) addend_value sign_word_gives
      (λ sign. then_gives _ _ start expression_value addend_value multiplicative_gives (λ x. pure_gives (sign, x) (expression_value x) addend_value (λ q. refl)))

  number_is : (number : Literal) (others : List Expression) (q : Ask) → each_literal q number && lists expression_value others q ≡ each_expression q (chain e.Product (e.Literal number) others)
  number_is number others q = ap (λ (b : Bool). b && lists expression_value others q) (sym (by-Literal (each_expression_of q) number)) ∙ chain_is e.Product product_joins (e.Literal number) others q

  signed_product_gives : Gives start (g.SignedProduct Expression') addend_value
  signed_product_gives =
      then_gives _ _ start literal_value addend_value signed_gives
      (λ number. then_gives _ _ (literal_value number) (λ xs q. each_literal q number && lists expression_value xs q) addend_value
      (later_gives _ (literal_value number) (lists expression_value) (each_gives terminal.Star _ expression_value (refl, λ q text. refl) unary_gives))
      (λ others. pure_gives (Plus, chain e.Product (e.Literal number) others) _ addend_value (number_is number others)))

  additive_gives : Gives start (g.AdditiveExpression Expression') expression_value
  additive_gives =
      then_gives _ _ start expression_value expression_value multiplicative_gives
      (λ first. then_gives _ _ (expression_value first) (λ ys q. each_expression q first && lists addend_value ys q) expression_value
      (later_gives _ (expression_value first) (lists addend_value) (star_gives _ addend_value (one_gives _ addend_value (or_gives _ _ start addend_value sign_and_product_gives signed_product_gives))))
      (λ others. pure_gives (sum first others) _ expression_value (sum_is first others)))

  relational_gives : Gives start (g.RelationalExpression Expression') expression_value
  relational_gives =
      then_gives _ _ start expression_value expression_value additive_gives
      (λ left. or_gives _ _ (expression_value left) expression_value
      (then_gives _ _ (expression_value left) (λ _. expression_value left) expression_value (quiet_later (expression_value left))
      (λ operator. map_gives (e.Compare operator left) _ (expression_value left) (λ y q. each_expression q left && each_expression q y) expression_value
      (later_gives _ (expression_value left) expression_value additive_gives) (λ right q. sym (by-Compare (each_expression_of q) operator left right))))
      (pure_gives left (expression_value left) expression_value (λ q. refl)))
    where
      quiet_later : (before : Value) → Gives before g.AComparison (λ _. before)
      quiet_later before = fronts.same_gives _ before (λ _ q. before q && true) (λ _. before) (later_gives _ before (λ _. start) comparison_gives) (λ x q. fronts.and_true (before q))

  and_gives : Gives start (g.ConditionalAndExpression Expression') expression_value
  and_gives = chain_gives terminal.And e.And (refl, λ q text. refl) and_joins _ relational_gives

  or_expression_gives : Gives start (g.ConditionalOrExpression Expression') expression_value
  or_expression_gives = chain_gives terminal.Or e.Or (refl, λ q text. refl) or_joins _ and_gives

expression_gives : (depth : ℕ) → Gives start (g.Expressions_at depth) expression_value
unfolding Gives
expression_gives zero ts x us d = absurd d
expression_gives (suc depth) ts x us d = or_expression_gives (g.Expressions_at depth) (expression_gives depth) ts x us d

pub constraint_gives : (depth : ℕ) → Gives start (g.Constraint (g.Expressions_at depth)) expression_value
constraint_gives depth = constraint_gives_with (g.Expressions_at depth) (expression_gives depth)
