-- Prefixes are declared before they are used.
use Rattle.std.specs.Prelude.{ℕ, Bool, true, ◌&&◌, List, map, Option, Some, None}
use Rattle.std.specs.List.{list_all}
use Rattle.indexmap.specs.IndexSet.{insert_key}
use Rattle.rdf_grammar.specs.Keys.{key_of, same_key}
use Rattle.rdf_grammar.specs.Literals.{known_literal}
use Rattle.rdf_grammar.specs.Prologue.{knows}
use Rattle.sparql_grammar.specs.Proper.{holds}
use Rattle.sparql_grammar.specs.declared.tree.Block.{Block}
use Rattle.sparql_grammar.specs.declared.tree.Declaration.{Declaration}
use Rattle.sparql_grammar.specs.declared.tree.Declaration.TheVariants as d
use Rattle.sparql_grammar.specs.declared.tree.Node.{Node}
use Rattle.sparql_grammar.specs.declared.tree.Node.TheOpen.{Node-F, Property-F}
use Rattle.sparql_grammar.specs.declared.tree.Node.TheFolds.{fold-Node, fold-Property}
use Rattle.sparql_grammar.specs.declared.tree.Property.{Property}
use Rattle.sparql_grammar.specs.declared.tree.Triples.{Triples}
use Rattle.sparql_grammar.specs.declared.tree.VarOrIri.{VarOrIri}
use Rattle.sparql_grammar.specs.declared.tree.VarOrIri.TheVariants as place
use Rattle.sparql_grammar.specs.declared.tree.Verb.{Verb}
use Rattle.sparql_grammar.specs.declared.tree.Verb.TheVariants as v

-- each prefix that stands in the tree is one of these
module _ (declared : List (List ℕ)) where
  abbrev pub known_verb : Verb → Bool
  known_verb (v.Variable name) = true
  known_verb (v.Name name) = knows declared name
  known_verb v.Type = true

  abbrev pub known_property_of : Property-F Bool Bool → Bool
  known_property_of p = known_verb p.verb && list_all holds p.objects

  abbrev pub known_node_of : Node-F Bool Bool → Bool
  known_node_of (Node-F.Variable name) = true
  known_node_of (Node-F.Name name) = knows declared name
  known_node_of (Node-F.Literal l) = known_literal declared l
  known_node_of (Node-F.Label label) = true
  known_node_of (Node-F.Blank bracket properties) = list_all holds properties
  known_node_of (Node-F.Collection bracket items) = list_all holds items

  abbrev pub known_node : Node → Bool
  known_node = fold-Node Bool Bool known_node_of known_property_of

  abbrev pub known_property : Property → Bool
  known_property = fold-Property Bool Bool known_node_of known_property_of

  abbrev pub known_triples : Triples → Bool
  known_triples t = known_node t.subject && list_all holds (map known_property t.properties)

  abbrev pub known_var_or_iri : VarOrIri → Bool
  known_var_or_iri (place.Variable name) = true
  known_var_or_iri (place.Name name) = knows declared name

  abbrev pub known_graph : Option VarOrIri → Bool
  known_graph None = true
  known_graph (Some graph) = known_var_or_iri graph

  abbrev pub known_block : Block → Bool
  known_block b = known_graph b.graph && list_all holds (map known_triples b.triples)

-- the prefixes behind a declaration
abbrev pub declared_behind : List (List ℕ) → Declaration → List (List ℕ)
declared_behind declared (d.Prefix prefix reference) = insert_key same_key declared (key_of prefix)
declared_behind declared (d.Base reference) = declared
