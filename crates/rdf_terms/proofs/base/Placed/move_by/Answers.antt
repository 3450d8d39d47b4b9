use Rattle.std.proofs.Common.{ℕ, List, subst}
use Rattle.rdf_terms.specs.Resolution.{ResolvesTo}
use Rattle.rdf_terms.proofs.MovingLemmas.{base_moved}
use Rattle.rdf_terms.proofs.base.Placed.move_by.Goals as goal

pub invariant_of-self-2 : goal.invariant_of-self-2
invariant_of-self-2 c =
    let m = base_moved c.self.inside.text.items c.args.reference.now c.in_ok-change.change c.deref.result.now c.as_bytes.result.now c.deref-2.result.now c.replace_end.new.text.items
    c.deref.ensures.value c.as_bytes.ensures.value c.in_ok-change.ensures c.deref-2.ensures.value c.in_ok-replace_end.ensures.replaced c.self.invariant.0 c.utf8.reference c.requires in
    (m.sound, m.layout)

pub returns-clause-value : goal.returns-clause-value
returns-clause-value c =
    let m = base_moved c.self.inside.text.items c.args.reference.now c.in_ok-change.change c.deref.result.now c.as_bytes.result.now c.deref-2.result.now c.replace_end.new.text.items
    c.deref.ensures.value c.as_bytes.ensures.value c.in_ok-change.ensures c.deref-2.ensures.value c.in_ok-replace_end.ensures.replaced c.self.invariant.0 c.utf8.reference c.requires in
    subst (λ (b : List ℕ). ResolvesTo b c.args.reference.now c.replace_end.new.text.items) c.self.view_is m.value

pub returns-clause-sound : goal.returns-clause-sound
returns-clause-sound c =
    (base_moved c.self.inside.text.items c.args.reference.now c.in_ok-change.change c.deref.result.now c.as_bytes.result.now c.deref-2.result.now c.replace_end.new.text.items
    c.deref.ensures.value c.as_bytes.ensures.value c.in_ok-change.ensures c.deref-2.ensures.value c.in_ok-replace_end.ensures.replaced c.self.invariant.0 c.utf8.reference c.requires).sound
