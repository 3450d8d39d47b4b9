-- The grammar of Turtle (Turtle 1.1, section 6.5), a definition for each production. Where a production has alternatives the
-- next lexeme chooses.
use Rattle.std.specs.Prelude.{ℕ, zero, suc, Bool, true, false, List, [], ◌∷◌, Option, Some}
use Rattle.rdf_turtle.specs.declared.terminal.Terminal.{Terminal}
use Rattle.rdf_turtle.specs.declared.terminal.Terminal.TheVariants as terminal
use Rattle.rdf_grammar.specs.declared.tree.Name.{Name}
use Rattle.rdf_turtle.specs.declared.tree.Verb.{Verb}
use Rattle.rdf_turtle.specs.declared.tree.Verb.TheVariants as v
use Rattle.rdf_grammar.specs.declared.tree.Literal.{Literal}
use Rattle.rdf_turtle.specs.declared.tree.Node.{Node}
use Rattle.rdf_turtle.specs.declared.tree.Node.TheVariants as n
use Rattle.rdf_turtle.specs.declared.tree.Property.{Property}
use Rattle.rdf_turtle.specs.declared.tree.Statement.{Statement}
use Rattle.rdf_turtle.specs.declared.tree.Statement.TheVariants as s
use Rattle.rdf_grammar.specs.Steps.{◌>>=◌, ◌>>◌, ◌<$>◌, pure, none}
use Rattle.rdf_grammar.specs.ProductionReadings as productions
use Rattle.rdf_grammar.specs.Terminals.{peek, next_terminal}
use Rattle.rdf_turtle.specs.Grammar.{bound, property_with, all_of}
use Rattle.rdf_turtle.specs.Lexemes.{Lexemes, Reading, the, value, separated, separated_loosely}
use Rattle.rdf_turtle.specs.Terminals.{word}
use Rattle.rdf_grammar.specs.Readings.{any, one, optional, repeat, is_more}

-- iri = IRIREF | PrefixedName
abbrev pub iri : Reading Name
iri = productions.iri word

-- verb = iri | "a"
abbrev pub verb_by : Option Terminal → Reading Verb
verb_by (Some terminal.A) = any >> pure v.Type
verb_by _ = v.Name <$> iri

unfoldable pub verb : Reading Verb
verb = peek >>= verb_by

abbrev pub begins_verb : Option Terminal → Bool
begins_verb (Some terminal.A) = true
begins_verb (Some terminal.Iri) = true
begins_verb (Some terminal.Pname) = true
begins_verb _ = false

abbrev pub sees_verb : Lexemes → Bool
sees_verb ts = begins_verb (next_terminal ts)

-- literal = RDFLiteral | NumericLiteral | BooleanLiteral
abbrev pub literal : Reading Literal
literal = productions.literal word

abbrev pub begins_node : Option Terminal → Bool
begins_node (Some terminal.Iri) = true
begins_node (Some terminal.Pname) = true
begins_node (Some terminal.BlankLabel) = true
begins_node (Some terminal.OpenBracket) = true
begins_node (Some terminal.Open) = true
begins_node (Some terminal.Text) = true
begins_node (Some terminal.Integer) = true
begins_node (Some terminal.Decimal) = true
begins_node (Some terminal.Double) = true
begins_node (Some terminal.True) = true
begins_node (Some terminal.False) = true
begins_node _ = false

abbrev pub sees_node : Lexemes → Bool
sees_node ts = begins_node (next_terminal ts)

abbrev pub begins_subject : Option Terminal → Bool
begins_subject (Some terminal.BlankLabel) = true
begins_subject (Some terminal.OpenBracket) = true
begins_subject (Some terminal.Open) = true
begins_subject (Some terminal.Iri) = true
begins_subject (Some terminal.Pname) = true
begins_subject _ = false

-- node is the rule for what stands inside brackets
module _ (node : Reading Node) where
  -- objectList = object ( "," object )*
  unfoldable pub objects : Reading (List Node)
  objects = separated terminal.Comma node

  -- verb objectList
  unfoldable pub property : Reading Property
  property = do
    v ← verb
    os ← objects
    pure (property_with v os)

  -- ( verb objectList )?
  unfoldable pub optional_property : Reading (Option Property)
  optional_property = optional sees_verb property

  -- predicateObjectList = verb objectList ( ";" ( verb objectList )? )*
  unfoldable pub predicate_object_list : Reading (List Property)
  predicate_object_list = separated_loosely terminal.Semicolon sees_verb property

  -- predicateObjectList?
  unfoldable pub optional_predicate_object_list : Reading (List Property)
  optional_predicate_object_list = all_of <$> optional sees_verb predicate_object_list

  -- behind ANON predicateObjectList, behind blankNodePropertyList predicateObjectList?
  abbrev pub predicate_object_list_behind : List Property → Reading (List Property)
  predicate_object_list_behind [] = predicate_object_list
  predicate_object_list_behind (p ∷ ps) = optional_predicate_object_list

  -- "[" predicateObjectList? "]", which is ANON and blankNodePropertyList
  unfoldable pub bracketed : Reading (List Property)
  bracketed = do
    the terminal.OpenBracket
    ps ← optional_predicate_object_list
    the terminal.CloseBracket
    pure ps

  -- collection = "(" object* ")"
  unfoldable pub collection : Reading (List Node)
  collection = do
    the terminal.Open
    items ← repeat sees_node (one node)
    the terminal.Close
    pure items

  -- subject = iri | BlankNode | collection, and blankNodePropertyList
  abbrev pub subject_by : Option Terminal → Reading Node
  subject_by (Some terminal.BlankLabel) = n.Label <$> value terminal.BlankLabel
  subject_by (Some terminal.OpenBracket) = n.Blank <$> bracketed
  subject_by (Some terminal.Open) = n.Collection <$> collection
  subject_by _ = n.Name <$> iri

  unfoldable pub subject : Reading Node
  subject = peek >>= subject_by

  -- object = iri | BlankNode | collection | blankNodePropertyList | literal
  abbrev pub object_by : Bool → Reading Node
  object_by true = subject
  object_by false = n.Literal <$> literal

  unfoldable pub object : Reading Node
  object = peek >>= (λ k. object_by (begins_subject k))

-- An object. The number is how many brackets may be open from the one around it on.
unfoldable pub node : ℕ → Reading Node
node zero = none
node (suc depth) = object (node depth)

-- PNAME_NS IRIREF
unfoldable pub binding : Reading Statement
binding = bound <$> productions.binding word

-- IRIREF
unfoldable pub base : Reading Statement
base = s.Base <$> value terminal.Iri

-- what was read, where a dot follows
abbrev pub ended : {A : Type 0} → A → Reading A
ended x = do
  the terminal.Dot
  pure x

-- something, and a dot behind it
abbrev pub dotted : {A : Type 0} → Reading A → Reading A
dotted p = do
  x ← p
  ended x

-- inner and node are the rules for what stands inside a statement's brackets and outside of them
module _ (inner node : Reading Node) where
  unfoldable pub about_blank : Reading Statement
  about_blank = do
    inside ← bracketed inner
    ps ← predicate_object_list_behind node inside
    pure (s.Triples (n.Blank inside) ps)

  unfoldable pub about_subject : Reading Statement
  about_subject = do
    subject ← subject inner
    ps ← predicate_object_list node
    pure (s.Triples subject ps)

  -- triples = subject predicateObjectList | blankNodePropertyList predicateObjectList?
  abbrev pub triples_by : Option Terminal → Reading Statement
  triples_by (Some terminal.OpenBracket) = about_blank
  triples_by _ = about_subject

  unfoldable pub triples : Reading Statement
  triples = peek >>= triples_by

  -- statement = directive | triples "."
  abbrev pub statement_by : Option Terminal → Reading Statement
  statement_by (Some terminal.AtPrefix) = any >> dotted binding
  statement_by (Some terminal.AtBase) = any >> dotted base
  statement_by (Some terminal.Prefix) = any >> binding
  statement_by (Some terminal.Base) = any >> base
  statement_by _ = dotted triples

  unfoldable pub statement : Reading Statement
  statement = peek >>= statement_by

-- turtleDoc = statement*. The number is how many brackets may be open at once.
unfoldable pub document : ℕ → Reading (List Statement)
document depth = repeat is_more (one (statement (node depth) (node (suc depth))))
