use Rattle.std.proofs.Common.{◌≡◌, map, drop}
use Rattle.std.specs.List.{list_all}
use Rattle.sparql_grammar.specs.Proper.{holds}
use Rattle.sparql_drafts.specs.Known as spec
use Rattle.sparql_drafts.proofs.known.+known.Given as goal

abbrev pub invariant-knows_nodes-loop-node : goal.invariant-knows_nodes-loop-node
invariant-knows_nodes-loop-node l =
    let f = spec.known_node l.declared.keys in
    list_all holds (map f l.nodes) ≡ list_all holds (map f (drop l.node-index l.nodes))

abbrev pub invariant-knows_properties-loop-property : goal.invariant-knows_properties-loop-property
invariant-knows_properties-loop-property l =
    let f = spec.known_property l.declared.keys in
    list_all holds (map f l.properties) ≡ list_all holds (map f (drop l.property-index l.properties))
