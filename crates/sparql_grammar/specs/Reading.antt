-- Triples (SPARQL 1.1 Query, section 19.8), a definition for each production. Where a production has alternatives the next lexeme
-- chooses.
use Rattle.std.specs.Prelude.{ℕ, zero, suc, Bool, true, false, ◌&&◌, if◌then◌else◌, List, [], ◌∷◌, Option, Some, None}
use Rattle.sparql_terminals.specs.declared.terminal.Terminal.{Terminal}
use Rattle.sparql_terminals.specs.declared.terminal.Terminal.TheVariants as terminal
use Rattle.sparql_grammar.specs.declared.tree.VarOrIri.{VarOrIri}
use Rattle.sparql_grammar.specs.declared.tree.VarOrIri.TheVariants as i
use Rattle.sparql_grammar.specs.declared.tree.Verb.{Verb}
use Rattle.sparql_grammar.specs.declared.tree.Verb.TheVariants as v
use Rattle.sparql_grammar.specs.declared.tree.Node.{Node}
use Rattle.sparql_grammar.specs.declared.tree.Node.TheVariants as n
use Rattle.sparql_grammar.specs.declared.tree.Property.{Property}
use Rattle.sparql_grammar.specs.declared.tree.Triples.{Triples}
use Rattle.rdf_grammar.specs.Readings.{any, one, optional, repeat, next}
use Rattle.rdf_grammar.specs.Steps.{◌>>=◌, ◌>>◌, ◌<$>◌, pure, none}
use Rattle.rdf_grammar.specs.Terminals.{peek, next_terminal}
use Rattle.sparql_terminals.specs.Lexemes.{Reading, Test, sees, the, value, separated, separated_loosely}
use Rattle.sparql_grammar.specs.Proper.{stands_alone}
use Rattle.sparql_terminals.specs.WordReading.{iri, literal}

-- a lexeme of this terminal, if it comes next, and whether it does
abbrev pub perhaps : Terminal → Reading Bool
perhaps k = λ ts. Some (sees k ts, if sees k ts then next ts else ts)

-- VarOrIri = Var | iri
abbrev pub var_or_iri_by : Option Terminal → Reading VarOrIri
var_or_iri_by (Some terminal.Variable) = i.Variable <$> value terminal.Variable
var_or_iri_by _ = i.Name <$> iri

unfoldable pub var_or_iri : Reading VarOrIri
var_or_iri = peek >>= var_or_iri_by

-- Verb = VarOrIri | "a"
abbrev pub verb_by : Option Terminal → Reading Verb
verb_by (Some terminal.A) = any >> pure v.Type
verb_by (Some terminal.Variable) = v.Variable <$> value terminal.Variable
verb_by _ = v.Name <$> iri

unfoldable pub verb : Reading Verb
verb = peek >>= verb_by

abbrev pub begins_verb : Option Terminal → Bool
begins_verb (Some terminal.A) = true
begins_verb (Some terminal.Variable) = true
begins_verb (Some terminal.Iri) = true
begins_verb (Some terminal.Pname) = true
begins_verb _ = false

abbrev pub sees_verb : Test
sees_verb ts = begins_verb (next_terminal ts)

-- what begins a GraphNode, and so triples
abbrev pub begins_node : Option Terminal → Bool
begins_node (Some terminal.Variable) = true
begins_node (Some terminal.Iri) = true
begins_node (Some terminal.Pname) = true
begins_node (Some terminal.BlankLabel) = true
begins_node (Some terminal.OpenBracket) = true
begins_node (Some terminal.Open) = true
begins_node (Some terminal.Text) = true
begins_node (Some terminal.Integer) = true
begins_node (Some terminal.Decimal) = true
begins_node (Some terminal.Double) = true
begins_node (Some terminal.SignedInteger) = true
begins_node (Some terminal.SignedDecimal) = true
begins_node (Some terminal.SignedDouble) = true
begins_node (Some terminal.True) = true
begins_node (Some terminal.False) = true
begins_node _ = false

abbrev pub sees_node : Test
sees_node ts = begins_node (next_terminal ts)

abbrev pub property_with : Verb → List Node → Property
property_with verb objects = record { verb = verb; objects = objects }

abbrev pub triples_with : Node → List Property → Triples
triples_with subject properties = record { subject = subject; properties = properties }

-- a list that may be missing
abbrev pub all_of : {A : Type 0} → Option (List A) → List A
all_of None = []
all_of (Some xs) = xs

-- node is the rule for what stands inside brackets
module _ (node : Reading Node) where
  -- ObjectList = Object ( "," Object )*
  unfoldable pub objects : Reading (List Node)
  objects = separated terminal.Comma node

  -- Verb ObjectList
  unfoldable pub property : Reading Property
  property = do
    v ← verb
    os ← objects
    pure (property_with v os)

  -- ( Verb ObjectList )?
  unfoldable pub optional_property : Reading (Option Property)
  optional_property = optional sees_verb property

  -- PropertyListNotEmpty = Verb ObjectList ( ";" ( Verb ObjectList )? )*
  unfoldable pub property_list_not_empty : Reading (List Property)
  property_list_not_empty = separated_loosely terminal.Semicolon sees_verb property

  -- PropertyList = PropertyListNotEmpty?
  unfoldable pub property_list : Reading (List Property)
  property_list = all_of <$> optional sees_verb property_list_not_empty

  -- "[" PropertyList "]", which is ANON and BlankNodePropertyList
  unfoldable pub bracketed : Reading Node
  bracketed = do
    bracket ← value terminal.OpenBracket
    ps ← property_list
    the terminal.CloseBracket
    pure (n.Blank bracket ps)

  -- "(" GraphNode* ")", which is NIL and Collection
  unfoldable pub collection : Reading Node
  collection = do
    bracket ← value terminal.Open
    items ← repeat sees_node (one node)
    the terminal.Close
    pure (n.Collection bracket items)

  -- GraphNode = VarOrTerm | TriplesNode
  abbrev pub graph_node_by : Option Terminal → Reading Node
  graph_node_by (Some terminal.Variable) = n.Variable <$> value terminal.Variable
  graph_node_by (Some terminal.Iri) = n.Name <$> iri
  graph_node_by (Some terminal.Pname) = n.Name <$> iri
  graph_node_by (Some terminal.BlankLabel) = n.Label <$> value terminal.BlankLabel
  graph_node_by (Some terminal.OpenBracket) = bracketed
  graph_node_by (Some terminal.Open) = collection
  graph_node_by _ = n.Literal <$> literal

  unfoldable pub graph_node : Reading Node
  graph_node = peek >>= graph_node_by

-- A node. The number is how many brackets may be open from the one around it on.
unfoldable pub node : ℕ → Reading Node
node zero = none
node (suc depth) = graph_node (node depth)

-- a dot, and triples behind it
abbrev pub sees_another : Test
sees_another ts = sees terminal.Dot ts && sees_node (next ts)

-- node is the rule for subjects and objects
module _ (node : Reading Node) where
  -- behind VarOrTerm PropertyListNotEmpty; behind TriplesNode, which stands alone, PropertyList
  unfoldable pub properties_of : Node → Reading (List Property)
  properties_of subject = if stands_alone subject then property_list node else property_list_not_empty node

  -- TriplesSameSubject = VarOrTerm PropertyListNotEmpty | TriplesNode PropertyList
  unfoldable pub same_subject : Reading Triples
  same_subject = do
    subject ← node
    ps ← properties_of subject
    pure (triples_with subject ps)

  -- TriplesTemplate = TriplesSameSubject ( "." TriplesTemplate? )?
  unfoldable pub triples_template : Reading (List Triples)
  triples_template = do
    first ← same_subject
    others ← repeat sees_another (one (the terminal.Dot >> same_subject))
    optional (sees terminal.Dot) (the terminal.Dot)
    pure (first ∷ others)

-- At most 100 brackets are open at once: triples in braces.
abbrev pub in_data : Reading (List Triples)
in_data = triples_template (node 100)
