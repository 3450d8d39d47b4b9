-- What each tree of the grammar is: its names, tags and verbs are whole, and no literal is a subject (Turtle 1.1, section 6.5).
use Rattle.std.specs.Prelude.{Bool, true, false, ◌&&◌, not, List, [], ◌∷◌, map}
use Rattle.std.specs.List.{list_all}
use Rattle.rdf_turtle.specs.declared.tree.Verb.{Verb}
use Rattle.rdf_turtle.specs.declared.tree.Verb.TheVariants as v
use Rattle.rdf_turtle.specs.declared.tree.Node.{Node}
use Rattle.rdf_turtle.specs.declared.tree.Node.TheVariants as n
use Rattle.rdf_turtle.specs.declared.tree.Node.TheOpen.{Node-F, Property-F}
use Rattle.rdf_turtle.specs.declared.tree.Node.TheFolds.{fold-Node, fold-Property}
use Rattle.rdf_turtle.specs.declared.tree.Property.{Property}
use Rattle.rdf_turtle.specs.declared.tree.Statement.{Statement}
use Rattle.rdf_turtle.specs.declared.tree.Statement.TheVariants as s
use Rattle.rdf_turtle.specs.Known.{holds}
use Rattle.rdf_turtle.specs.Meaning.{meaning, has_properties}
use Rattle.rdf_grammar.specs.Literals.{proper_literal}
use Rattle.rdf_grammar.specs.Prologue.{is_proper}

abbrev pub proper_verb : Verb → Bool
proper_verb (v.Name name) = is_proper name
proper_verb v.Type = true

abbrev pub is_filled : {A : Type 0} → List A → Bool
is_filled [] = false
is_filled (x ∷ xs) = true

-- a verb has one object or more
abbrev pub proper_property_of : Property-F Bool Bool → Bool
proper_property_of p = proper_verb p.verb && (is_filled p.objects && list_all holds p.objects)

abbrev pub proper_node_of : Node-F Bool Bool → Bool
proper_node_of (Node-F.Name name) = is_proper name
proper_node_of (Node-F.Label label) = true
proper_node_of (Node-F.Blank properties) = list_all holds properties
proper_node_of (Node-F.Collection items) = list_all holds items
proper_node_of (Node-F.Literal l) = proper_literal l

abbrev pub proper_node : Node → Bool
proper_node = fold-Node Bool Bool proper_node_of proper_property_of

abbrev pub proper_property : Property → Bool
proper_property = fold-Property Bool Bool proper_node_of proper_property_of

abbrev pub is_literal : Node → Bool
is_literal (n.Literal l) = true
is_literal _ = false

-- a subject is no literal, and has properties
abbrev pub proper_triples : Node → List Property → Bool
proper_triples node ps = not (is_literal node) && (proper_node node && (list_all holds (map proper_property ps) && has_properties (meaning node).alone ps))

abbrev pub proper_statement : Statement → Bool
proper_statement (s.Triples node ps) = proper_triples node ps
proper_statement _ = true
