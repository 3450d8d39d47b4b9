-- The meaning of a property, and of a node of each kind that is short for several triples.
use Rattle.std.proofs.Common.{◌≡◌, List, map, sym, ap, ◌∙◌}
use Rattle.rdf_turtle.specs.declared.tree.Verb.{Verb}
use Rattle.rdf_turtle.specs.declared.tree.Node.{Node}
use Rattle.rdf_turtle.specs.declared.tree.Node.TheVariants as n
use Rattle.rdf_turtle.specs.declared.tree.Node.TheOpen.{Node-F}
use Rattle.rdf_turtle.specs.declared.tree.Node.TheFolds.{fold-roll-Node, fold-roll-Property}
use Rattle.rdf_turtle.specs.declared.tree.Property.{Property}
use Rattle.rdf_turtle.specs.Meaning.{Meaning, Says, meaning, node_of, property_of, property, collection}

pub meaning-Collection : (xs : List Node) → meaning (n.Collection xs) ≡ collection (map meaning xs)
meaning-Collection xs = ap meaning (sym (n.rolls-Collection xs)) ∙ fold-roll-Node Meaning Says node_of property_of (Node-F.Collection xs)

pub meaning-Blank : (ps : List Property) → meaning (n.Blank ps) ≡ node_of (Node-F.Blank (map property ps))
meaning-Blank ps = ap meaning (sym (n.rolls-Blank ps)) ∙ fold-roll-Node Meaning Says node_of property_of (Node-F.Blank ps)

pub property-is : (w : Verb) (xs : List Node) →
    property (record { verb = w; objects = xs }) ≡ property_of (record { verb = w; objects = map meaning xs })
property-is w xs = fold-roll-Property Meaning Says node_of property_of (record { verb = w; objects = xs })
