use Rattle.std.proofs.Common.{◌≡◌, map, drop, IsTrue}
use Rattle.std.specs.List.{list_all}
use Rattle.sparql_drafts.specs.Meaning as spec
use Rattle.sparql_grammar.specs.Proper.{holds, proper_node, proper_property}
use Rattle.sparql_drafts.specs.Room.{HasRoom, TakesAtMost, SaysAtLeast}
use Rattle.rdf_grammar.specs.Steps.{each}
use Rattle.sparql_drafts.proofs.scope.Scope.+inside.Given as goal

abbrev pub invariant-behind-loop-item : goal.invariant-behind-loop-item
invariant-behind-loop-item l = record {
  says : spec.behind l.initial.cell (map spec.meaning l.items) l.initial.self ≡ spec.behind l.cell (map spec.meaning (drop l.item-index l.items)) l.self;
  prologue : l.self.prologue ≡ l.initial.self.prologue;
  proper : IsTrue (list_all holds (map proper_node (drop l.item-index l.items)));
  room : HasRoom 0 l.self;
  takes : TakesAtMost 0 l.initial.self l.self;
  least : SaysAtLeast l.item-index l.initial.self l.self;
}

abbrev pub invariant-objects-loop-node : goal.invariant-objects-loop-node
invariant-objects-loop-node l =
    let f = spec.object l.subject l.predicate in
    record {
      says : each f (map spec.meaning l.nodes) l.initial.self ≡ each f (map spec.meaning (drop l.node-index l.nodes)) l.self;
      prologue : l.self.prologue ≡ l.initial.self.prologue;
      proper : IsTrue (list_all holds (map proper_node (drop l.node-index l.nodes)));
      room : HasRoom 0 l.self;
      takes : TakesAtMost 0 l.initial.self l.self;
      least : SaysAtLeast l.node-index l.initial.self l.self;
    }

abbrev pub invariant-properties-loop-property : goal.invariant-properties-loop-property
invariant-properties-loop-property l = record {
  says : spec.properties l.subject l.properties l.initial.self ≡ spec.properties l.subject (drop l.property-index l.properties) l.self;
  prologue : l.self.prologue ≡ l.initial.self.prologue;
  proper : IsTrue (list_all holds (map proper_property (drop l.property-index l.properties)));
  room : HasRoom 0 l.self;
  takes : TakesAtMost 0 l.initial.self l.self;
  least : SaysAtLeast l.property-index l.initial.self l.self;
}
