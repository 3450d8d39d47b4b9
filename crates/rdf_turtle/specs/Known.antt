-- Prefixes are declared before they are used.
use Rattle.std.specs.Prelude.{ℕ, Bool, true, false, ◌&&◌, List, [], ◌∷◌, map, if◌then◌else◌}
use Rattle.std.specs.List.{list_all}
use Rattle.indexmap.specs.IndexSet.{insert_key}
use Rattle.rdf_turtle.specs.declared.tree.Verb.{Verb}
use Rattle.rdf_turtle.specs.declared.tree.Verb.TheVariants as v
use Rattle.rdf_turtle.specs.declared.tree.Node.{Node}
use Rattle.rdf_turtle.specs.declared.tree.Node.TheOpen.{Node-F, Property-F}
use Rattle.rdf_turtle.specs.declared.tree.Node.TheFolds.{fold-Node, fold-Property}
use Rattle.rdf_turtle.specs.declared.tree.Property.{Property}
use Rattle.rdf_turtle.specs.declared.tree.Statement.{Statement}
use Rattle.rdf_turtle.specs.declared.tree.Statement.TheVariants as s
pub use Rattle.rdf_grammar.specs.Holds.{holds}
use Rattle.rdf_grammar.specs.Keys.{key_of, same_key}
use Rattle.rdf_grammar.specs.Literals.{known_literal}
use Rattle.rdf_grammar.specs.Prologue.{knows}

-- each prefix that stands in the tree is one of these
module _ (declared : List (List ℕ)) where
  abbrev pub known_verb : Verb → Bool
  known_verb (v.Name name) = knows declared name
  known_verb v.Type = true

  abbrev pub known_property_of : Property-F Bool Bool → Bool
  known_property_of p = known_verb p.verb && list_all holds p.objects

  abbrev pub known_node_of : Node-F Bool Bool → Bool
  known_node_of (Node-F.Name name) = knows declared name
  known_node_of (Node-F.Label label) = true
  known_node_of (Node-F.Blank properties) = list_all holds properties
  known_node_of (Node-F.Collection items) = list_all holds items
  known_node_of (Node-F.Literal l) = known_literal declared l

  abbrev pub known_node : Node → Bool
  known_node = fold-Node Bool Bool known_node_of known_property_of

  abbrev pub known_property : Property → Bool
  known_property = fold-Property Bool Bool known_node_of known_property_of

  abbrev pub known_triples : Node → List Property → Bool
  known_triples node ps = known_node node && list_all holds (map known_property ps)

  unfoldable pub known_statement : Statement → Bool
  known_statement (s.Triples node ps) = known_triples node ps
  known_statement _ = true

-- the prefixes behind a statement
abbrev pub declared_behind : List (List ℕ) → Statement → List (List ℕ)
declared_behind declared (s.Prefix prefix reference) = insert_key same_key declared (key_of prefix)
declared_behind declared _ = declared

-- each statement uses only prefixes that stand in the list or are declared before it
abbrev pub declares_first : List (List ℕ) → List Statement → Bool
declares_first declared [] = true
declares_first declared (s ∷ ss) = if known_statement declared s then declares_first (declared_behind declared s) ss else false
