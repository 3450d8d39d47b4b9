-- Expressions as they are written (SPARQL 1.1 Query, section 19.8, by the numbers of its rules), with no look at the next lexeme.
use Rattle.std.specs.Prelude.{ℕ, zero, suc, List}
use Rattle.rdf_grammar.specs.Derivations.{◌>>=◌, ◌>>◌, ◌<$>◌, ◌∣◌, pure, the, value, one, Star, EachBehind}
use Rattle.rdf_grammar.specs.declared.tree.Literal.{Literal}
use Rattle.rdf_grammar.specs.declared.tree.Literal.TheVariants as l
use Rattle.sparql_terminals.specs.declared.terminal.Terminal.TheVariants as terminal
use Rattle.sparql_terminals.specs.Lexemes.{Derives}
use Rattle.sparql_terminals.specs.WordGrammar.{Iri, ALiteral}
use Rattle.sparql_trees.specs.declared.expression.Comparison.{Comparison}
use Rattle.sparql_trees.specs.declared.expression.Comparison.TheVariants as c
use Rattle.sparql_trees.specs.declared.expression.Function.{Function}
use Rattle.sparql_trees.specs.declared.expression.Function.TheVariants as f
use Rattle.sparql_trees.specs.declared.expression.Sign.{Sign}
use Rattle.sparql_trees.specs.declared.expression.Sign.TheVariants.{Plus, Minus}
use Rattle.sparql_expressions.specs.declared.tree.Expression.{Expression}
use Rattle.sparql_expressions.specs.declared.tree.Expression.TheVariants as e
use Rattle.sparql_expressions.specs.ExpressionReading.{chain, sum}

-- the operators of 114: RelationalExpression; IN and NOT IN are left out
abbrev pub AComparison : Derives Comparison
AComparison =
    (the terminal.Equal >> pure c.Equal) ∣ (the terminal.NotEqual >> pure c.NotEqual) ∣ (the terminal.Less >> pure c.Less)
    ∣ (the terminal.Greater >> pure c.Greater) ∣ (the terminal.LessOrEqual >> pure c.LessOrEqual)
    ∣ (the terminal.GreaterOrEqual >> pure c.GreaterOrEqual)

abbrev pub ASign : Derives Sign
ASign = (the terminal.Plus >> pure Plus) ∣ (the terminal.Minus >> pure Minus)

-- 132: NumericLiteralPositive, 133: NumericLiteralNegative
abbrev pub SignedNumber : Derives Literal
SignedNumber = (l.Integer <$> value terminal.SignedInteger) ∣ (l.Decimal <$> value terminal.SignedDecimal) ∣ (l.Double <$> value terminal.SignedDouble)

-- the words of 121: BuiltInCall that take one value and give one
abbrev pub AFunction : Derives Function
AFunction =
    (the terminal.IsIri >> pure f.IsIri) ∣ (the terminal.IsUri >> pure f.IsIri) ∣ (the terminal.IsBlank >> pure f.IsBlank)
    ∣ (the terminal.IsLiteral >> pure f.IsLiteral) ∣ (the terminal.Str >> pure f.Str) ∣ (the terminal.Lang >> pure f.Lang)
    ∣ (the terminal.Datatype >> pure f.Datatype)

-- "BOUND" "(" Var ")"
abbrev pub Bound : Derives Expression
Bound = do
  the terminal.Bound
  the terminal.Open
  variable ← value terminal.Variable
  the terminal.Close
  pure (e.Bound variable)

-- Expression' is the grammar of what stands in parentheses
module _ (Expression' : Derives Expression) where
  -- 120: BrackettedExpression = "(" Expression ")"
  abbrev pub BrackettedExpression : Derives Expression
  BrackettedExpression = do
    the terminal.Open
    inner ← Expression'
    the terminal.Close
    pure inner

  -- "SAMETERM" "(" Expression "," Expression ")"
  abbrev pub SameTerm : Derives Expression
  SameTerm = do
    the terminal.SameTerm
    the terminal.Open
    left ← Expression'
    the terminal.Comma
    right ← Expression'
    the terminal.Close
    pure (e.SameTerm left right)

  abbrev pub FunctionCall : Derives Expression
  FunctionCall = do
    function ← AFunction
    e.Call function <$> BrackettedExpression

  -- 121: BuiltInCall
  abbrev pub BuiltInCall : Derives Expression
  BuiltInCall = Bound ∣ SameTerm ∣ FunctionCall

  -- 119: PrimaryExpression = BrackettedExpression | BuiltInCall | iriOrFunction | RDFLiteral | NumericLiteral | BooleanLiteral | Var;
  -- functions that are named by IRIs are left out
  abbrev pub PrimaryExpression : Derives Expression
  PrimaryExpression = BrackettedExpression ∣ BuiltInCall ∣ (e.Name <$> Iri) ∣ (e.Literal <$> ALiteral) ∣ (e.Variable <$> value terminal.Variable)

  -- 118: UnaryExpression = "!" PrimaryExpression | "+" PrimaryExpression | "-" PrimaryExpression | PrimaryExpression
  abbrev pub UnaryExpression : Derives Expression
  UnaryExpression =
      (the terminal.Not >> e.Not <$> PrimaryExpression) ∣ (the terminal.Plus >> e.Signed Plus <$> PrimaryExpression)
      ∣ (the terminal.Minus >> e.Signed Minus <$> PrimaryExpression) ∣ PrimaryExpression

  -- ( "*" UnaryExpression )*; division is left out
  abbrev pub Factors : Derives (List Expression)
  Factors = EachBehind terminal.Star UnaryExpression

  -- 117: MultiplicativeExpression = UnaryExpression ( "*" UnaryExpression | "/" UnaryExpression )*
  abbrev pub MultiplicativeExpression : Derives Expression
  MultiplicativeExpression = do
    first ← UnaryExpression
    others ← Factors
    pure (chain e.Product first others)

  -- "+" MultiplicativeExpression | "-" MultiplicativeExpression
  abbrev pub SignAndProduct : Derives (Sign × Expression)
  SignAndProduct = do
    sign ← ASign
    product ← MultiplicativeExpression
    pure (sign, product)

  -- ( NumericLiteralPositive | NumericLiteralNegative ) ( "*" UnaryExpression )*, which is added
  abbrev pub SignedProduct : Derives (Sign × Expression)
  SignedProduct = do
    number ← SignedNumber
    others ← Factors
    pure (Plus, chain e.Product (e.Literal number) others)

  -- 116: AdditiveExpression = MultiplicativeExpression ( "+" MultiplicativeExpression | "-" MultiplicativeExpression
  -- | ( NumericLiteralPositive | NumericLiteralNegative ) ( "*" UnaryExpression | "/" UnaryExpression )* )*
  abbrev pub AdditiveExpression : Derives Expression
  AdditiveExpression = do
    first ← MultiplicativeExpression
    others ← Star (one (SignAndProduct ∣ SignedProduct))
    pure (sum first others)

  abbrev pub Compared : Expression → Derives Expression
  Compared left = do
    operator ← AComparison
    e.Compare operator left <$> AdditiveExpression

  -- 114: RelationalExpression = NumericExpression ( an operator NumericExpression )?, and 115: NumericExpression = AdditiveExpression
  abbrev pub RelationalExpression : Derives Expression
  RelationalExpression = do
    left ← AdditiveExpression
    Compared left ∣ pure left

  -- 112: ConditionalAndExpression = ValueLogical ( "&&" ValueLogical )*, and 113: ValueLogical = RelationalExpression
  abbrev pub ConditionalAndExpression : Derives Expression
  ConditionalAndExpression = do
    first ← RelationalExpression
    others ← EachBehind terminal.And RelationalExpression
    pure (chain e.And first others)

  -- 111: ConditionalOrExpression = ConditionalAndExpression ( "||" ConditionalAndExpression )*, and 110: Expression
  abbrev pub ConditionalOrExpression : Derives Expression
  ConditionalOrExpression = do
    first ← ConditionalAndExpression
    others ← EachBehind terminal.Or ConditionalAndExpression
    pure (chain e.Or first others)

  -- 69: Constraint = BrackettedExpression | BuiltInCall | FunctionCall; functions that are named by IRIs are left out
  abbrev pub Constraint : Derives Expression
  Constraint = BrackettedExpression ∣ BuiltInCall

-- An expression whose parentheses nest less than so deep.
abbrev pub Expressions_at : ℕ → Derives Expression
Expressions_at zero ts x us = ⊥
Expressions_at (suc depth) ts x us = ConditionalOrExpression (Expressions_at depth) ts x us
