-- Groups as they are written (SPARQL 1.1 Query, section 19.8, by the numbers of its rules), with no look at the next lexeme.
use Rattle.std.specs.Prelude.{ℕ, zero, suc, List, ◌∷◌, ◌++◌, Option, option_to_list}
use Rattle.rdf_grammar.specs.Derivations.{◌>>=◌, ◌>>◌, ◌<$>◌, ◌∣◌, pure, the, maybe, Star, EachBehind}
use Rattle.sparql_terminals.specs.declared.terminal.Terminal.TheVariants as terminal
use Rattle.sparql_expressions.specs.declared.tree.Expression.{Expression}
use Rattle.sparql_expressions.specs.ExpressionGrammar.{Constraint, Expressions_at}
use Rattle.sparql_grammar.specs.declared.tree.Element.{Element}
use Rattle.sparql_grammar.specs.declared.tree.Element.TheVariants as e
use Rattle.sparql_grammar.specs.declared.tree.Group.{Group}
use Rattle.sparql_grammar.specs.declared.tree.Member.{Member}
use Rattle.sparql_grammar.specs.declared.tree.Member.TheVariants as m
use Rattle.sparql_grammar.specs.declared.tree.Triples.{Triples}
use Rattle.sparql_grammar.specs.Grammar.{AVarOrIri, Nodes_at, Perhaps, TriplesTemplate}
use Rattle.sparql_grammar.specs.GroupReading.{group_with}
use Rattle.sparql_terminals.specs.Lexemes.{Derives}

-- TriplesBlock?, which is TriplesTemplate? (52) where no path stands: 55: TriplesBlock = TriplesSameSubjectPath ( "." TriplesBlock? )?
abbrev pub MaybeBlock : Derives (List Triples) → Derives (Option Element)
MaybeBlock Block = maybe (e.Block <$> Block)

-- Group' is the grammar of the groups inside
module _ (Group' : Derives Group) where
  -- 67: GroupOrUnionGraphPattern = GroupGraphPattern ( "UNION" GroupGraphPattern )*
  abbrev pub GroupOrUnionGraphPattern : Derives Member
  GroupOrUnionGraphPattern = do
    first ← Group'
    others ← EachBehind terminal.Union Group'
    pure (m.Union (first ∷ others))

  -- 57: OptionalGraphPattern = "OPTIONAL" GroupGraphPattern
  abbrev pub OptionalGraphPattern : Derives Member
  OptionalGraphPattern = the terminal.Optional >> m.Optional <$> Group'

  -- 66: MinusGraphPattern = "MINUS" GroupGraphPattern
  abbrev pub MinusGraphPattern : Derives Member
  MinusGraphPattern = the terminal.MinusWord >> m.Minus <$> Group'

  -- 58: GraphGraphPattern = "GRAPH" VarOrIri GroupGraphPattern
  abbrev pub GraphGraphPattern : Derives Member
  GraphGraphPattern = do
    the terminal.Graph
    graph ← AVarOrIri
    group ← Group'
    pure (m.Graph graph group)

  abbrev pub APattern : Derives Member
  APattern = GroupOrUnionGraphPattern ∣ OptionalGraphPattern ∣ MinusGraphPattern ∣ GraphGraphPattern

-- Constraint' is the grammar of what stands behind FILTER, and Group' that of the groups inside
module _ (Constraint' : Derives Expression) (Group' : Derives Group) where
  -- 68: Filter = "FILTER" Constraint
  abbrev pub Filter : Derives Element
  Filter = the terminal.Filter >> e.Filter <$> Constraint'

  -- 56: GraphPatternNotTriples = GroupOrUnionGraphPattern | OptionalGraphPattern | MinusGraphPattern | GraphGraphPattern
  -- | ServiceGraphPattern | Filter | Bind | InlineData; SERVICE, BIND and VALUES are left out
  abbrev pub GraphPatternNotTriples : Derives Element
  GraphPatternNotTriples = (e.Pattern <$> APattern Group') ∣ Filter

-- Block is the grammar of TriplesBlock
module _ (Block : Derives (List Triples)) (Constraint' : Derives Expression) (Group' : Derives Group) where
  -- GraphPatternNotTriples "."? TriplesBlock?
  abbrev pub PatternAndBlock : Derives (List Element)
  PatternAndBlock = do
    pattern ← GraphPatternNotTriples Constraint' Group'
    Perhaps terminal.Dot
    block ← MaybeBlock Block
    pure (pattern ∷ option_to_list block)

  -- 54: GroupGraphPatternSub = TriplesBlock? ( GraphPatternNotTriples "."? TriplesBlock? )*
  abbrev pub GroupGraphPatternSub : Derives Group
  GroupGraphPatternSub = do
    first ← MaybeBlock Block
    others ← Star PatternAndBlock
    pure (group_with (option_to_list first ++ others))

  -- 53: GroupGraphPattern = "{" ( SubSelect | GroupGraphPatternSub ) "}"; a query inside a group is left out
  abbrev pub GroupGraphPattern : Derives Group
  GroupGraphPattern = do
    the terminal.OpenBrace
    group ← GroupGraphPatternSub
    the terminal.CloseBrace
    pure group

-- A group whose braces nest no deeper.
abbrev pub Groups_at : Derives (List Triples) → Derives Expression → ℕ → Derives Group
Groups_at Block Constraint' zero ts x us = ⊥
Groups_at Block Constraint' (suc depth) ts x us = GroupGraphPattern Block Constraint' (Groups_at Block Constraint' depth) ts x us

-- A group in which the brackets of triples, the parentheses of constraints and other groups nest no deeper.
abbrev pub GroupAt : ℕ → Derives Group
GroupAt depth = Groups_at (TriplesTemplate (Nodes_at depth)) (Constraint (Expressions_at depth)) (suc depth)
