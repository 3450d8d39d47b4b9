-- Groups (SPARQL 1.1 Query, section 19.8), a definition for each production. Where a production has alternatives the next lexeme
-- chooses.
use Rattle.std.specs.Prelude.{ℕ, zero, suc, Bool, true, false, List, [], ◌∷◌, ◌++◌, Option, Some, option_to_list}
use Rattle.rdf_grammar.specs.Steps.{◌>>=◌, ◌>>◌, ◌<$>◌, pure, none}
use Rattle.rdf_grammar.specs.Terminals.{peek, next_terminal}
use Rattle.rdf_grammar.specs.Readings.{any, optional, repeat}
use Rattle.sparql_terminals.specs.declared.terminal.Terminal.{Terminal}
use Rattle.sparql_terminals.specs.declared.terminal.Terminal.TheVariants as terminal
use Rattle.sparql_expressions.specs.declared.tree.Expression.{Expression}
use Rattle.sparql_expressions.specs.ExpressionReading.{constraint}
use Rattle.sparql_grammar.specs.declared.tree.Element.{Element}
use Rattle.sparql_grammar.specs.declared.tree.Element.TheVariants as e
use Rattle.sparql_grammar.specs.declared.tree.Group.{Group}
use Rattle.sparql_grammar.specs.declared.tree.Member.{Member}
use Rattle.sparql_grammar.specs.declared.tree.Member.TheVariants as m
use Rattle.sparql_grammar.specs.declared.tree.Triples.{Triples}
use Rattle.sparql_terminals.specs.Lexemes.{Reading, Test, the, each_behind}
use Rattle.sparql_grammar.specs.Reading.{in_data, node, perhaps, sees_node, triples_template, var_or_iri}

-- ---- a group by what is written in it

-- what its FILTERs ask
unfoldable pub filters_of : List Element → List Expression
filters_of [] = []
filters_of (e.Block triples ∷ elements) = filters_of elements
filters_of (e.Filter expression ∷ elements) = expression ∷ filters_of elements
filters_of (e.Pattern member ∷ elements) = filters_of elements

-- triples that stand together, if there are any
abbrev pub together : List Triples → List Member
together [] = []
together (x ∷ xs) = m.Triples (x ∷ xs) ∷ []

-- its members, where this block stands before: triples join it, a FILTER is passed over, and a pattern ends it
unfoldable pub members_behind : List Triples → List Element → List Member
members_behind block [] = together block
members_behind block (e.Block triples ∷ elements) = members_behind (block ++ triples) elements
members_behind block (e.Filter expression ∷ elements) = members_behind block elements
members_behind block (e.Pattern member ∷ elements) = together block ++ member ∷ members_behind [] elements

abbrev pub group_with : List Element → Group
group_with elements = record { members = members_behind [] elements; filters = filters_of elements }

-- ---- the productions

-- what begins a GraphPatternNotTriples
abbrev pub begins_pattern : Option Terminal → Bool
begins_pattern (Some terminal.OpenBrace) = true
begins_pattern (Some terminal.Optional) = true
begins_pattern (Some terminal.MinusWord) = true
begins_pattern (Some terminal.Graph) = true
begins_pattern (Some terminal.Filter) = true
begins_pattern _ = false

abbrev pub sees_pattern : Test
sees_pattern ts = begins_pattern (next_terminal ts)

-- TriplesBlock?
unfoldable pub maybe_block : Reading (List Triples) → Reading (Option Element)
maybe_block block = optional sees_node (e.Block <$> block)

-- group is the rule for the groups inside
module _ (group : Reading Group) where
  -- GroupOrUnionGraphPattern = GroupGraphPattern ( "UNION" GroupGraphPattern )*
  unfoldable pub group_or_union : Reading Member
  group_or_union = do
    first ← group
    others ← each_behind terminal.Union group
    pure (m.Union (first ∷ others))

  -- GraphGraphPattern = "GRAPH" VarOrIri GroupGraphPattern, behind its word
  unfoldable pub graph_pattern : Reading Member
  graph_pattern = do
    graph ← var_or_iri
    group ← group
    pure (m.Graph graph group)

  -- GroupOrUnionGraphPattern | OptionalGraphPattern | MinusGraphPattern | GraphGraphPattern, and
  -- OptionalGraphPattern = "OPTIONAL" GroupGraphPattern, and MinusGraphPattern = "MINUS" GroupGraphPattern
  abbrev pub pattern_by : Option Terminal → Reading Member
  pattern_by (Some terminal.Optional) = any >> m.Optional <$> group
  pattern_by (Some terminal.MinusWord) = any >> m.Minus <$> group
  pattern_by (Some terminal.Graph) = any >> graph_pattern
  pattern_by _ = group_or_union

  unfoldable pub pattern : Reading Member
  pattern = peek >>= pattern_by

-- constraint is the rule for what stands behind FILTER, and group that for the groups inside
module _ (constraint : Reading Expression) (group : Reading Group) where
  -- GraphPatternNotTriples = GroupOrUnionGraphPattern | OptionalGraphPattern | MinusGraphPattern | GraphGraphPattern | Filter, and
  -- Filter = "FILTER" Constraint
  abbrev pub pattern_or_filter_by : Option Terminal → Reading Element
  pattern_or_filter_by (Some terminal.Filter) = any >> e.Filter <$> constraint
  pattern_or_filter_by _ = e.Pattern <$> pattern group

  unfoldable pub pattern_or_filter : Reading Element
  pattern_or_filter = peek >>= pattern_or_filter_by

-- block is the rule for TriplesBlock
module _ (block : Reading (List Triples)) (constraint : Reading Expression) (group : Reading Group) where
  -- GraphPatternNotTriples "."? TriplesBlock?
  unfoldable pub pattern_and_block : Reading (List Element)
  pattern_and_block = do
    pattern ← pattern_or_filter constraint group
    perhaps terminal.Dot
    triples ← maybe_block block
    pure (pattern ∷ option_to_list triples)

  -- GroupGraphPatternSub = TriplesBlock? ( GraphPatternNotTriples "."? TriplesBlock? )*
  unfoldable pub contents : Reading Group
  contents = do
    first ← maybe_block block
    others ← repeat sees_pattern pattern_and_block
    pure (group_with (option_to_list first ++ others))

  -- GroupGraphPattern = "{" GroupGraphPatternSub "}"
  unfoldable pub group_graph_pattern : Reading Group
  group_graph_pattern = do
    the terminal.OpenBrace
    group ← contents
    the terminal.CloseBrace
    pure group

-- A group. The number is how many groups may be open from this one on.
unfoldable pub group : Reading (List Triples) → Reading Expression → ℕ → Reading Group
group block constraint zero = none
group block constraint (suc depth) = group_graph_pattern block constraint (group block constraint depth)

-- A group in which the brackets of triples, the parentheses of constraints and other groups nest no deeper.
abbrev pub group_at : ℕ → Reading Group
group_at depth = group (triples_template (node (suc depth))) (constraint depth) (suc depth)

-- At most 100 brackets are open at once: a group, and the triples in it, or the parentheses of a constraint.
abbrev pub in_filter : Reading Expression
in_filter = constraint 99

abbrev pub group_within : ℕ → Reading Group
group_within = group in_data in_filter

abbrev pub whole_group : Reading Group
whole_group = group_within 100
