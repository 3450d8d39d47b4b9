-- What is asked of triples: of each name, variable and blank node in their trees, and of each literal that is a subject.
use Rattle.std.proofs.Common.{Bool, true, false, ◌&&◌, ◌||◌, not, List, [], ◌∷◌, map, Option, Some, None}
use Rattle.std.specs.List.{list_all}
use Rattle.rdf_grammar.specs.Holds.{holds}
use Rattle.rdf_grammar.specs.Terminals.{Slice}
use Rattle.rdf_grammar.specs.declared.tree.Literal.{Literal}
use Rattle.rdf_grammar.specs.declared.tree.Literal.TheVariants as l
use Rattle.rdf_grammar.specs.declared.tree.Name.{Name}
use Rattle.sparql_grammar.specs.declared.tree.Block.{Block}
use Rattle.sparql_grammar.specs.declared.tree.Node.{Node}
use Rattle.sparql_grammar.specs.declared.tree.Node.TheOpen.{Node-F, Property-F}
use Rattle.sparql_grammar.specs.declared.tree.Node.TheFolds.{fold-Node, fold-Property}
use Rattle.sparql_grammar.specs.declared.tree.Property.{Property}
use Rattle.sparql_grammar.specs.declared.tree.Triples.{Triples}
use Rattle.sparql_grammar.specs.declared.tree.VarOrIri.{VarOrIri}
use Rattle.sparql_grammar.specs.declared.tree.VarOrIri.TheVariants as i
use Rattle.sparql_grammar.specs.declared.tree.Verb.{Verb}
use Rattle.sparql_grammar.specs.declared.tree.Verb.TheVariants as v

-- What is answered of a name, of a variable, of a blank node with a label, of one without, of a literal as a subject, and of a word that
-- begins a clause or a declaration.
pub record Question : Type 0 where
  pub name : Name → Bool
  pub variable : Bool
  pub label : Slice → Bool
  pub blank : Bool
  pub literal : Bool
  pub word : Bool

-- a node is a literal
abbrev pub literal_of : Node-F Bool Bool → Bool
literal_of (Node-F.Literal l) = true
literal_of _ = false

abbrev pub property_of : Property-F Bool Bool → Bool
property_of p = false

abbrev pub is_literal_node : Node → Bool
is_literal_node = fold-Node Bool Bool literal_of property_of

abbrev pub is_literal_property : Property → Bool
is_literal_property = fold-Property Bool Bool literal_of property_of

module _ (q : Question) where
  -- of the name of a literal's datatype
  abbrev pub asks_literal : Literal → Bool
  asks_literal (l.Typed text name) = q.name name
  asks_literal _ = true

  abbrev pub asks_verb : Verb → Bool
  asks_verb (v.Variable name) = q.variable
  asks_verb (v.Name name) = q.name name
  asks_verb v.Type = true

  abbrev pub asks_property_of : Property-F Bool Bool → Bool
  asks_property_of p = asks_verb p.verb && list_all holds p.objects

  -- a list has blank nodes where it has elements
  abbrev pub asks_list : List Bool → Bool
  asks_list [] = true
  asks_list (b ∷ bs) = q.blank && list_all holds (b ∷ bs)

  abbrev pub asks_node_of : Node-F Bool Bool → Bool
  asks_node_of (Node-F.Variable name) = q.variable
  asks_node_of (Node-F.Name name) = q.name name
  asks_node_of (Node-F.Literal l) = asks_literal l
  asks_node_of (Node-F.Label label) = q.label label
  asks_node_of (Node-F.Blank bracket properties) = q.blank && list_all holds properties
  asks_node_of (Node-F.Collection bracket items) = asks_list items

  abbrev pub asks_node : Node → Bool
  asks_node = fold-Node Bool Bool asks_node_of asks_property_of

  abbrev pub asks_property : Property → Bool
  asks_property = fold-Property Bool Bool asks_node_of asks_property_of

  abbrev pub asks_subject : Node → Bool
  asks_subject node = not (is_literal_node node) || q.literal

  abbrev pub asks_triples : Triples → Bool
  asks_triples t = asks_subject t.subject && (asks_node t.subject && list_all holds (map asks_property t.properties))

  abbrev pub asks_name : VarOrIri → Bool
  asks_name (i.Variable name) = q.variable
  asks_name (i.Name name) = q.name name

  abbrev pub asks_graph : Option VarOrIri → Bool
  asks_graph None = true
  asks_graph (Some graph) = asks_name graph

  abbrev pub asks_block : Block → Bool
  asks_block b = asks_graph b.graph && list_all holds (map asks_triples b.triples)

  abbrev pub asks_blocks : List Block → Bool
  asks_blocks blocks = list_all holds (map asks_block blocks)
