use Rattle.std.proofs.Common.{◌≡◌, ◌∙◌, arith, rules}
use Rattle.std.proofs.lemmas.List.{take_rest}
use Rattle.sparql_drafts.specs.Meaning as spec
use Rattle.sparql_grammar.specs.Proper.{proper_node, proper_property}
use Rattle.rdf_grammar.proofs.CallerLemmas.{next_member, next_step}
use Rattle.sparql_drafts.proofs.ScopeLoops.{next_in_list}
use Rattle.sparql_drafts.proofs.scope.Scope.+inside.Goals as goal

pub behind-loop-item-preserved : goal.behind-loop-item-preserved
behind-loop-item-preserved t c =
    let i = c.loop-item.item-index in
    let items = c.args.items.now in
    let same : c.next_cell.new.self.prologue ≡ c.loop-item.self.prologue = c.next_cell.ensures.prologue in
    let proper = next_member proper_node items i c.item-item.result c.loop-item-test.true c.item-item.is c.loop-item.invariant.proper in
    record {
      says = c.loop-item.invariant.says
          ∙ next_in_list c.loop-item.cell c.in_ok-next.next items i c.item-item.result c.loop-item.self c.next_cell.new.self c.loop-item-test.true c.item-item.is c.in_ok-next.ensures.gives;
      prologue = same ∙ c.loop-item.invariant.prologue;
      proper = proper.1;
      room = omega (arith, c.loop-item.invariant.room, c.in_ok-next.ensures.room);
      takes = omega (arith, c.loop-item.invariant.takes, c.in_ok-next.ensures.room);
      least = omega (arith, c.loop-item.invariant.least, c.in_ok-next.ensures.says);
    }

pub objects-loop-node-preserved : goal.objects-loop-node-preserved
objects-loop-node-preserved t c =
    let i = c.loop-node.node-index in
    let nodes = c.args.nodes.now in
    let same : c.object.new.self.prologue ≡ c.loop-node.self.prologue = c.object.ensures.prologue in
    let proper = next_member proper_node nodes i c.node-item.result c.loop-node-test.true c.node-item.is c.loop-node.invariant.proper in
    record {
      says = c.loop-node.invariant.says
          ∙ next_step (spec.object c.args.subject.now c.args.predicate.now) spec.meaning nodes i c.node-item.result c.loop-node.self c.object.new.self
          c.loop-node-test.true c.node-item.is c.in_ok-object.ensures.gives;
      prologue = same ∙ c.loop-node.invariant.prologue;
      proper = proper.1;
      room = omega (arith, c.loop-node.invariant.room, c.in_ok-object.ensures.room);
      takes = omega (arith, c.loop-node.invariant.takes, c.in_ok-object.ensures.room);
      least = omega (arith, c.loop-node.invariant.least, c.in_ok-object.ensures.says);
    }

pub properties-loop-property-preserved : goal.properties-loop-property-preserved
properties-loop-property-preserved t c =
    let i = c.loop-property.property-index in
    let properties = c.args.properties.now in
    let same : c.property.new.self.prologue ≡ c.loop-property.self.prologue = c.property.ensures.prologue in
    let proper = next_member proper_property properties i c.property-item.result c.loop-property-test.true c.property-item.is c.loop-property.invariant.proper in
    record {
      says = c.loop-property.invariant.says
          ∙ next_step (λ (says : spec.Says). says c.args.subject.now) spec.property properties i c.property-item.result c.loop-property.self c.property.new.self
          c.loop-property-test.true c.property-item.is c.in_ok-property.ensures.gives;
      prologue = same ∙ c.loop-property.invariant.prologue;
      proper = proper.1;
      room = omega (arith, c.loop-property.invariant.room, c.in_ok-property.ensures.room);
      takes = omega (arith, c.loop-property.invariant.takes, c.in_ok-property.ensures.room);
      least = omega (arith, c.loop-property.invariant.least, c.in_ok-property.ensures.says);
    }

pub elements-behind-requires : goal.elements-behind-requires
elements-behind-requires t c =
    (rw (take_rest c.args.items.now 1) (search rules), (rw (take_rest c.args.items.now 1) c.requires.proper_rest, omega (arith, c.requires.room, c.in_ok-first_element-in-len1-up.ensures.room)))
