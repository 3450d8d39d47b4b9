-- What a tree holds of the text, and what the lexemes carry: the same leaves, in the same order (Turtle 1.1, section 6.5).
use Rattle.std.specs.Prelude.{◌≡◌, Bool, true, false, List, [], ◌∷◌, ◌++◌, map}
use Rattle.std.specs.List.{AllByRecursion}
use Rattle.rdf_turtle.specs.declared.terminal.Terminal.{Terminal}
use Rattle.rdf_turtle.specs.declared.terminal.Terminal.TheVariants as terminal
use Rattle.rdf_turtle.specs.Lexemes.{Lexemes}
use Rattle.rdf_grammar.specs.declared.tree.Name.{Name}
use Rattle.rdf_grammar.specs.declared.tree.Name.TheVariants.{Full, Prefixed}
use Rattle.rdf_turtle.specs.declared.tree.Verb.{Verb}
use Rattle.rdf_turtle.specs.declared.tree.Verb.TheVariants as v
use Rattle.rdf_grammar.specs.declared.tree.Literal.{Literal}
use Rattle.rdf_grammar.specs.declared.tree.Literal.TheVariants as l
use Rattle.rdf_turtle.specs.declared.tree.Node.{Node}
use Rattle.rdf_turtle.specs.declared.tree.Node.TheVariants as n
use Rattle.rdf_turtle.specs.declared.tree.Node.TheOpen.{Node-F, Property-F}
use Rattle.rdf_turtle.specs.declared.tree.Node.TheFolds.{fold-Node, fold-Property}
use Rattle.rdf_turtle.specs.declared.tree.Property.{Property}
use Rattle.rdf_turtle.specs.declared.tree.Statement.{Statement}
use Rattle.rdf_turtle.specs.declared.tree.Statement.TheVariants as s
use Rattle.rdf_tokens.specs.Values.{prefix_part, local_part}
use Rattle.rdf_grammar.specs.Terminals.{Slice}
use Rattle.rdf_turtle.specs.Grammar.{IsDocument}

-- a terminal, and the slices of a lexeme of it: of a Pname its prefix and its local part
abbrev pub Leaf : Type 0
Leaf = Terminal × List Slice

abbrev pub leaf : Terminal → Slice → Leaf
leaf k text = (k, text ∷ [])

-- ---- lexemes

-- behind it each word with an at sign is a tag
abbrev pub takes_tag : Terminal → Bool
takes_tag terminal.Text = true
takes_tag _ = false

-- the word of a directive, whatever its case
abbrev pub directive : Terminal → Leaf
directive k = (k, [])

-- `@prefix` or `@base`: a tag behind a text, else the word of a directive, as the other word for it
abbrev pub at_word : Bool → Terminal → Slice → List Leaf
at_word true k text = leaf terminal.AtWord text ∷ []
at_word false k text = directive k ∷ []

-- What a lexeme carries, behind a text or not: names, labels, texts, tags, numbers, truth values, `a` and the words of directives.
-- Brackets and signs carry nothing.
abbrev pub content : Bool → Terminal → Slice → List Leaf
content behind terminal.Iri text = leaf terminal.Iri text ∷ []
content behind terminal.Pname text = (terminal.Pname, prefix_part text ∷ local_part text ∷ []) ∷ []
content behind terminal.BlankLabel text = leaf terminal.BlankLabel text ∷ []
content behind terminal.Text text = leaf terminal.Text text ∷ []
content behind terminal.AtWord text = leaf terminal.AtWord text ∷ []
content behind terminal.AtPrefix text = at_word behind terminal.Prefix text
content behind terminal.AtBase text = at_word behind terminal.Base text
content behind terminal.Prefix text = directive terminal.Prefix ∷ []
content behind terminal.Base text = directive terminal.Base ∷ []
content behind terminal.Integer text = leaf terminal.Integer text ∷ []
content behind terminal.Decimal text = leaf terminal.Decimal text ∷ []
content behind terminal.Double text = leaf terminal.Double text ∷ []
content behind terminal.True text = leaf terminal.True text ∷ []
content behind terminal.False text = leaf terminal.False text ∷ []
content behind terminal.A text = (terminal.A, []) ∷ []
content behind _ text = []

abbrev pub contents : Bool → Lexemes → List Leaf
contents behind [] = []
contents behind (t ∷ ts) = content behind t.terminal t.text ++ contents (takes_tag t.terminal) ts

-- ---- trees

abbrev pub joined : List (List Leaf) → List Leaf
joined [] = []
joined (x ∷ xs) = x ++ joined xs

abbrev pub name_leaves : Name → List Leaf
name_leaves (Full reference) = leaf terminal.Iri reference ∷ []
name_leaves (Prefixed prefix local) = (terminal.Pname, prefix ∷ local ∷ []) ∷ []

abbrev pub verb_leaves : Verb → List Leaf
verb_leaves (v.Name name) = name_leaves name
verb_leaves v.Type = (terminal.A, []) ∷ []

abbrev pub literal_leaves : Literal → List Leaf
literal_leaves (l.Plain form) = leaf terminal.Text form ∷ []
literal_leaves (l.Tagged form tag) = leaf terminal.Text form ∷ leaf terminal.AtWord tag ∷ []
literal_leaves (l.Typed form datatype) = leaf terminal.Text form ∷ name_leaves datatype
literal_leaves (l.Integer form) = leaf terminal.Integer form ∷ []
literal_leaves (l.Decimal form) = leaf terminal.Decimal form ∷ []
literal_leaves (l.Double form) = leaf terminal.Double form ∷ []
literal_leaves (l.Boolean true word) = leaf terminal.True word ∷ []
literal_leaves (l.Boolean false word) = leaf terminal.False word ∷ []

abbrev pub property_leaves_of : Property-F (List Leaf) (List Leaf) → List Leaf
property_leaves_of p = verb_leaves p.verb ++ joined p.objects

abbrev pub node_leaves_of : Node-F (List Leaf) (List Leaf) → List Leaf
node_leaves_of (Node-F.Name name) = name_leaves name
node_leaves_of (Node-F.Label label) = leaf terminal.BlankLabel label ∷ []
node_leaves_of (Node-F.Blank properties) = joined properties
node_leaves_of (Node-F.Collection items) = joined items
node_leaves_of (Node-F.Literal literal) = literal_leaves literal

abbrev pub node_leaves : Node → List Leaf
node_leaves = fold-Node (List Leaf) (List Leaf) node_leaves_of property_leaves_of

abbrev pub property_leaves : Property → List Leaf
property_leaves = fold-Property (List Leaf) (List Leaf) node_leaves_of property_leaves_of

abbrev pub statement_leaves : Statement → List Leaf
statement_leaves (s.Prefix prefix reference) = directive terminal.Prefix ∷ (terminal.Pname, prefix ∷ [] ∷ []) ∷ leaf terminal.Iri reference ∷ []
statement_leaves (s.Base reference) = directive terminal.Base ∷ leaf terminal.Iri reference ∷ []
statement_leaves (s.Triples subject properties) = node_leaves subject ++ joined (map property_leaves properties)

abbrev pub document_leaves : List Statement → List Leaf
document_leaves document = joined (map statement_leaves document)

-- a literal is no subject
abbrev pub IsSubject : Node → Type 0
IsSubject (n.Literal literal) = ⊥
IsSubject _ = Unit {0}

abbrev pub HasSubject : Statement → Type 0
HasSubject (s.Triples subject properties) = IsSubject subject
HasSubject _ = Unit {0}

-- ---- laws

abbrev pub OneDocument : Type 0
OneDocument = (ts : Lexemes) (one other : List Statement) → IsDocument ts one → IsDocument ts other → one ≡ other

abbrev pub DocumentsHaveSubjects : Type 0
DocumentsHaveSubjects = (ts : Lexemes) (document : List Statement) → IsDocument ts document → AllByRecursion HasSubject document

-- the leaves of a document are the lexemes that carry content, in order, each once
abbrev pub LeavesAreLexemes : Type 0
LeavesAreLexemes = (ts : Lexemes) (document : List Statement) → IsDocument ts document → document_leaves document ≡ contents false ts
