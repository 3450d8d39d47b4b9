use Rattle.std.proofs.Common.{◌≡◌, false, map, drop, IsTrue}
use Rattle.std.specs.List.{list_all}
use Rattle.rdf_terms.specs.Term.{is_literal_term}
use Rattle.rdf_turtle.specs.Known.{holds, known_node, known_property}
use Rattle.rdf_turtle.specs.Meaning as spec
use Rattle.rdf_grammar.specs.Prologue.{declared}
use Rattle.rdf_turtle.specs.Inside.Proper.{proper_node, proper_property}
use Rattle.rdf_turtle.specs.Inside.Room.{HasRoom, TakesAtMost}
use Rattle.rdf_grammar.specs.Steps.{each}
use Rattle.rdf_turtle.proofs.scope.Scope.+inside.Given as goal

abbrev pub invariant-behind-loop-item : goal.invariant-behind-loop-item
invariant-behind-loop-item g l = record {
  says : spec.behind l.initial.cell (map spec.meaning l.items) l.initial.self ≡ spec.behind l.cell (map spec.meaning (drop l.item-index l.items)) l.self;
  prologue : l.self.prologue ≡ l.initial.self.prologue;
  known : let f = known_node (declared l.initial.self.prologue) in list_all holds (map f l.items) ≡ list_all holds (map f (drop l.item-index l.items));
  proper : IsTrue (list_all holds (map proper_node (drop l.item-index l.items)));
  subject : is_literal_term l.cell ≡ false;
  room : HasRoom 0 l.self;
  takes : TakesAtMost 0 l.initial.self l.self;
}

abbrev pub invariant-objects-loop-node : goal.invariant-objects-loop-node
invariant-objects-loop-node g l =
    let f = spec.object l.subject l.predicate in
    record {
      says : each f (map spec.meaning l.nodes) l.initial.self ≡ each f (map spec.meaning (drop l.node-index l.nodes)) l.self;
      prologue : l.self.prologue ≡ l.initial.self.prologue;
      known : let f = known_node (declared l.initial.self.prologue) in list_all holds (map f l.nodes) ≡ list_all holds (map f (drop l.node-index l.nodes));
      proper : IsTrue (list_all holds (map proper_node (drop l.node-index l.nodes)));
      room : HasRoom 0 l.self;
      takes : TakesAtMost 0 l.initial.self l.self;
    }

abbrev pub invariant-properties-loop-property : goal.invariant-properties-loop-property
invariant-properties-loop-property g l = record {
  says : spec.properties l.subject l.properties l.initial.self ≡ spec.properties l.subject (drop l.property-index l.properties) l.self;
  prologue : l.self.prologue ≡ l.initial.self.prologue;
  known : let f = known_property (declared l.initial.self.prologue) in list_all holds (map f l.properties) ≡ list_all holds (map f (drop l.property-index l.properties));
  proper : IsTrue (list_all holds (map proper_property (drop l.property-index l.properties)));
  room : HasRoom 0 l.self;
  takes : TakesAtMost 0 l.initial.self l.self;
}
