use Rattle.std.proofs.Common.{◌≡◌, ◌∙◌, ap, subst, true, arith}
use Rattle.rdf_turtle.specs.Known.{known_node, known_property}
use Rattle.rdf_turtle.specs.Meaning as spec
use Rattle.rdf_turtle.specs.ParserState.{ParserState}
use Rattle.rdf_grammar.specs.Prologue.{Prologue, declared}
use Rattle.rdf_turtle.specs.Inside.Proper.{proper_node, proper_property}
use Rattle.rdf_grammar.proofs.CallerLemmas.{next_member, next_step}
use Rattle.rdf_turtle.proofs.ScopeLoops.{next_cell, member_holds, on_ok, collection_known, property_known}
use Rattle.rdf_turtle.proofs.scope.Scope.+inside.Goals as goal

pub behind-loop-item-preserved : goal.behind-loop-item-preserved
behind-loop-item-preserved g t c =
    let i = c.loop-item.item-index in
    let items = c.args.items.now in
    let same : c.next_cell.new.self.prologue ≡ c.loop-item.self.prologue = c.next_cell.ensures.prologue in
    let known : known_node (declared c.args.self.now.prologue) c.item-item.result ≡ true =
    subst (λ (p : Prologue). known_node (declared p) c.item-item.result ≡ true) c.loop-item.invariant.prologue c.in_ok-next.ensures.known in
    let proper = next_member proper_node items i c.item-item.result c.loop-item-test.true c.item-item.is c.loop-item.invariant.proper in
    record {
      says = c.loop-item.invariant.says
          ∙ next_cell c.loop-item.cell c.in_ok-next.next c.args.first.now c.in_ok-rest.rest items i c.item-item.result c.loop-item.self c.next_cell.new.self
          c.requires.predicate (c.in_ok-rest.ensures ∙ c.rdf_rest.ensures) c.loop-item-test.true c.item-item.is c.in_ok-next.ensures.gives;
      prologue = same ∙ c.loop-item.invariant.prologue;
      known = c.loop-item.invariant.known ∙ member_holds (known_node (declared c.args.self.now.prologue)) items i c.item-item.result c.loop-item-test.true c.item-item.is known;
      proper = proper.1;
      subject = c.in_ok-next.ensures.kind;
      room = omega (arith, c.loop-item.invariant.room, c.in_ok-next.ensures.room);
      takes = omega (arith, c.loop-item.invariant.takes, c.in_ok-next.ensures.room);
    }

pub objects-loop-node-preserved : goal.objects-loop-node-preserved
objects-loop-node-preserved g t c =
    let i = c.loop-node.node-index in
    let nodes = c.args.nodes.now in
    let same : c.object.new.self.prologue ≡ c.loop-node.self.prologue = c.object.ensures.prologue in
    let known : known_node (declared c.args.self.now.prologue) c.node-item.result ≡ true =
    subst (λ (p : Prologue). known_node (declared p) c.node-item.result ≡ true) c.loop-node.invariant.prologue c.in_ok-object.ensures.known in
    let proper = next_member proper_node nodes i c.node-item.result c.loop-node-test.true c.node-item.is c.loop-node.invariant.proper in
    record {
      says = c.loop-node.invariant.says
          ∙ next_step (spec.object c.args.subject.now c.args.predicate.now) spec.meaning nodes i c.node-item.result c.loop-node.self c.object.new.self
          c.loop-node-test.true c.node-item.is c.in_ok-object.ensures.gives;
      prologue = same ∙ c.loop-node.invariant.prologue;
      known = c.loop-node.invariant.known ∙ member_holds (known_node (declared c.args.self.now.prologue)) nodes i c.node-item.result c.loop-node-test.true c.node-item.is known;
      proper = proper.1;
      room = omega (arith, c.loop-node.invariant.room, c.in_ok-object.ensures.room);
      takes = omega (arith, c.loop-node.invariant.takes, c.in_ok-object.ensures.room);
    }

pub properties-loop-property-preserved : goal.properties-loop-property-preserved
properties-loop-property-preserved g t c =
    let i = c.loop-property.property-index in
    let properties = c.args.properties.now in
    let same : c.property.new.self.prologue ≡ c.loop-property.self.prologue = c.property.ensures.prologue in
    let known : known_property (declared c.args.self.now.prologue) c.property-item.result ≡ true =
    subst (λ (p : Prologue). known_property (declared p) c.property-item.result ≡ true) c.loop-property.invariant.prologue c.in_ok-property.ensures.known in
    let proper = next_member proper_property properties i c.property-item.result c.loop-property-test.true c.property-item.is c.loop-property.invariant.proper in
    record {
      says = c.loop-property.invariant.says
          ∙ next_step (λ (says : spec.Says). says c.args.subject.now) spec.property properties i c.property-item.result c.loop-property.self c.property.new.self
          c.loop-property-test.true c.property-item.is c.in_ok-property.ensures.gives;
      prologue = same ∙ c.loop-property.invariant.prologue;
      known = c.loop-property.invariant.known ∙ member_holds (known_property (declared c.args.self.now.prologue)) properties i c.property-item.result c.loop-property-test.true c.property-item.is known;
      proper = proper.1;
      room = omega (arith, c.loop-property.invariant.room, c.in_ok-property.ensures.room);
      takes = omega (arith, c.loop-property.invariant.takes, c.in_ok-property.ensures.room);
    }

pub inside-returns-in_ok-object-in-len1-up-clause-known : goal.inside-returns-in_ok-object-in-len1-up-clause-known
inside-returns-in_ok-object-in-len1-up-clause-known g t c =
    λ _. on_ok _ (known_node (declared c.args.self.now.prologue) c.args.node.now ≡ true) c.behind.result c.behind.ensures.known
    (collection_known c.args.self.now.prologue c.object.new.self.prologue c.args.node.now _ c.as_slice-in-Collection.result.now c.first-item.result c.in-Collection.is c.as_slice-in-Collection.ensures
    c.in-len1-up.len_at_least c.first-item.is c.in_ok-object-in-len1-up.ensures.prologue c.in_ok-object-in-len1-up.ensures.known)

pub property-returns-clause-known : goal.property-returns-clause-known
property-returns-clause-known g t c =
    on_ok _ (known_property (declared c.args.self.now.prologue) c.args.property.now ≡ true) c.objects.result c.objects.ensures.known
    (property_known c.args.self.now.prologue c.verb.new.self.prologue c.args.property.now c.as_slice.result.now (ap (λ (s : ParserState). s.prologue) c.verb.ensures.same) c.as_slice.ensures
    c.in_ok-predicate.ensures.known)
