-- What a group says: names get their IRIs, triples that stand together are one basic graph pattern, and its blank nodes are hidden variables
-- (SPARQL 1.1 Query, sections 4.1 and 5). What its FILTERs ask stands apart from its members.
use Rattle.std.specs.Prelude.{ℕ, List, [], ◌∷◌, ◌++◌, Option, Some, map}
use Rattle.std.specs.Option.{option_map}
use Rattle.rdf_grammar.specs.Prologue.{Prologue, iri_of}
use Rattle.rdf_grammar.specs.Steps.{Step, ◌>>=◌, ◌<$>◌, pure}
use Rattle.rdf_terms.specs.declared.term.Term.TheVariants as term
use Rattle.sparql_drafts.specs.Meaning.{pattern_in}
use Rattle.sparql_drafts.specs.declared.draft.QuadPattern.{QuadPattern}
use Rattle.sparql_drafts.specs.declared.draft.Quads.{Quads}
use Rattle.sparql_drafts.specs.declared.draft.VarOrIri as read_name
use Rattle.sparql_drafts.specs.declared.draft.VarOrIri.TheVariants as read_name_of
use Rattle.sparql_drafts.specs.declared.draft.VarOrTerm as read_place
use Rattle.sparql_drafts.specs.declared.draft.VarOrTerm.TheVariants as read_place_of
use Rattle.sparql_expressions.specs.declared.tree.Expression as written_expression
use Rattle.sparql_grammar.specs.declared.tree.Group.{Group}
use Rattle.sparql_grammar.specs.declared.tree.Member.TheOpen.{Group-F, Member-F}
use Rattle.sparql_grammar.specs.declared.tree.Member.TheFolds.{fold-Group, fold-Member}
use Rattle.sparql_grammar.specs.declared.tree.Member as written_member
use Rattle.sparql_grammar.specs.declared.tree.Triples.{Triples}
use Rattle.sparql_grammar.specs.declared.tree.VarOrIri as written_name
use Rattle.sparql_grammar.specs.declared.tree.VarOrIri.TheVariants as n
use Rattle.sparql_queries.specs.Collected.{collected}
use Rattle.sparql_queries.specs.Expressions.{all, expression_in}
use Rattle.sparql_queries.specs.Variables.{variable_name}
use Rattle.sparql_trees.specs.declared.expression.Expression.{Expression}
use Rattle.sparql_trees.specs.declared.pattern.BasicGraphPattern.{BasicGraphPattern}
use Rattle.sparql_trees.specs.declared.pattern.Member.{Member}
use Rattle.sparql_trees.specs.declared.pattern.Member.TheVariants as member
use Rattle.sparql_trees.specs.declared.pattern.Pattern.{Pattern}
use Rattle.sparql_trees.specs.declared.pattern.TriplePattern.{TriplePattern}
use Rattle.sparql_trees.specs.declared.pattern.VarOrIri.{VarOrIri}
use Rattle.sparql_trees.specs.declared.pattern.VarOrIri.TheVariants as name
use Rattle.sparql_trees.specs.declared.pattern.VarOrTerm.{VarOrTerm}
use Rattle.sparql_trees.specs.declared.pattern.VarOrTerm.TheVariants as place

-- ---- basic graph patterns

abbrev pub var_or_iri : read_name.VarOrIri → VarOrIri
var_or_iri (read_name_of.Variable variable) = name.Variable (variable_name variable)
var_or_iri (read_name_of.Iri iri) = name.Iri iri

-- a blank node is a hidden variable (section 4.1.4)
abbrev pub var_or_term : read_place.VarOrTerm → VarOrTerm
var_or_term (read_place_of.Variable variable) = place.Variable (variable_name variable)
var_or_term (read_place_of.Term (term.Blank number)) = place.Hidden number
var_or_term (read_place_of.Term (term.Iri iri)) = place.Term (term.Iri iri)
var_or_term (read_place_of.Term (term.Literal literal)) = place.Term (term.Literal literal)

abbrev pub triple_pattern : QuadPattern → TriplePattern
triple_pattern p = record { subject = var_or_term p.subject; predicate = var_or_iri p.predicate; object = var_or_term p.object }

abbrev pub basic_graph_pattern : Quads → BasicGraphPattern
basic_graph_pattern q = record { triples = map triple_pattern q.patterns; hidden = q.blanks }

-- ---- groups

-- the blank node labels of each basic graph pattern so far
abbrev pub Labels : Type 0
Labels = List (List (List ℕ))

abbrev pub Does : Type 0 → Type 0
Does A = Step Labels A

abbrev pub pattern_with : List Member → List Expression → Pattern
pattern_with members filters = record { members = members; filters = filters }

module _ (p : Prologue) where
  -- triples that stand together (section 5.1), whose blank nodes are numbered from 0
  unfoldable pub basic : List Triples → Does BasicGraphPattern
  basic triples labels = option_map (λ q. (basic_graph_pattern q, labels ++ q.labels ∷ [])) (pattern_in triples p)

  -- what GRAPH names (section 8.3)
  abbrev pub graph_name : written_name.VarOrIri → Option VarOrIri
  graph_name (n.Variable variable) = Some (name.Variable (variable_name variable))
  graph_name (n.Name written) = option_map name.Iri (iri_of written p)

  unfoldable pub named : written_name.VarOrIri → Does VarOrIri
  named written labels = option_map (λ name. (name, labels)) (graph_name written)

  -- what FILTERs ask (section 17)
  unfoldable pub asked : List written_expression.Expression → Does (List Expression)
  asked filters labels = option_map (λ expressions. (expressions, labels)) (all (map (expression_in p) filters))

  -- the members, and the group's own FILTERs (section 5.2.2)
  abbrev pub group_of : Group-F (Does Member) (Does Pattern) → Does Pattern
  group_of g = do
    members ← collected g.members
    filters ← asked g.filters
    pure (pattern_with members filters)

  abbrev pub member_of : Member-F (Does Member) (Does Pattern) → Does Member
  member_of (Member-F.Triples triples) = member.Basic <$> basic triples
  member_of (Member-F.Union groups) = member.Union <$> collected groups
  member_of (Member-F.Optional group) = member.Optional <$> group
  member_of (Member-F.Graph written group) = do
    name ← named written
    pattern ← group
    pure (member.Graph name pattern)
  member_of (Member-F.Minus group) = member.Minus <$> group

  abbrev pub group : Group → Does Pattern
  group = fold-Group (Does Member) (Does Pattern) member_of group_of

  abbrev pub member_in : written_member.Member → Does Member
  member_in = fold-Member (Does Member) (Does Pattern) member_of group_of
