use Rattle.std.proofs.Common.{◌∙◌, sym, ap, subst}
use Rattle.rdf_dataset.specs.State.{IsQuadBelow, with_quad}
use Rattle.rdf_dataset.specs.Staging.{Staging, staged}
use Rattle.rdf_dataset.proofs.UnreadLemmas.{names_led, now, quad_comes, quads_led}
use Rattle.rdf_dataset.proofs.unread.Unread.insert.Goals as goal

pub invariant_of-result : goal.invariant_of-result
invariant_of-result g c =
    let s = g.D.Source.contents c.self.inside.under.now in
    let u = c.self.inside in
    let h = c.self.invariant in
    (quad_comes s u.quads.added u.quads.removed u.names.added u.names.removed u.after h c.args.quad c.insert.new.self.added c.insert.new.self.removed c.name_graph.new.names.added c.name_graph.new.names.removed
    (c.in_ok-insert.ensures.ok s.quads (now s u.quads.added u.quads.removed u.names.added u.names.removed u.after h).quads (quads_led s u.quads.added u.quads.removed u.names.added u.names.removed u.after h) c.contains-beneath.ensures)
    (c.in_ok-name_graph.ensures.ok (now s u.quads.added u.quads.removed u.names.added u.names.removed u.after h).names (names_led s u.quads.added u.quads.removed u.names.added u.names.removed u.after h))
    c.in_ok-name_graph.ensures.sound (subst (λ (v : Staging). IsQuadBelow v.now.next c.args.quad) (sym c.self.view_is) c.requires.below)).0

pub returns : goal.returns
returns g c =
    let s = g.D.Source.contents c.self.inside.under.now in
    let u = c.self.inside in
    let h = c.self.invariant in
    (quad_comes s u.quads.added u.quads.removed u.names.added u.names.removed u.after h c.args.quad c.insert.new.self.added c.insert.new.self.removed c.name_graph.new.names.added c.name_graph.new.names.removed
    (c.in_ok-insert.ensures.ok s.quads (now s u.quads.added u.quads.removed u.names.added u.names.removed u.after h).quads (quads_led s u.quads.added u.quads.removed u.names.added u.names.removed u.after h) c.contains-beneath.ensures)
    (c.in_ok-name_graph.ensures.ok (now s u.quads.added u.quads.removed u.names.added u.names.removed u.after h).names (names_led s u.quads.added u.quads.removed u.names.added u.names.removed u.after h))
    c.in_ok-name_graph.ensures.sound (subst (λ (v : Staging). IsQuadBelow v.now.next c.args.quad) (sym c.self.view_is) c.requires.below)).1
    ∙ ap (λ (v : Staging). staged v (with_quad v.now c.args.quad)) c.self.view_is
