use Rattle.std.proofs.Common.{◌∙◌, ap}
use Rattle.rdf_dataset.specs.State.{without_quad}
use Rattle.rdf_dataset.specs.Staging.{Staging, staged}
use Rattle.rdf_dataset.proofs.UnreadLemmas.{now, quad_goes, quads_led}
use Rattle.rdf_dataset.proofs.unread.Unread.remove.Goals as goal

pub invariant_of-result : goal.invariant_of-result
invariant_of-result g c =
    let s = g.D.Source.contents c.self.inside.under.now in
    let u = c.self.inside in
    let h = c.self.invariant in
    (quad_goes s u.quads.added u.quads.removed u.names.added u.names.removed u.after h c.args.quad.now c.remove.new.self.added c.remove.new.self.removed
    (c.in_ok-remove.ensures.ok s.quads (now s u.quads.added u.quads.removed u.names.added u.names.removed u.after h).quads (quads_led s u.quads.added u.quads.removed u.names.added u.names.removed u.after h) c.contains-beneath.ensures)).0

pub returns : goal.returns
returns g c =
    let s = g.D.Source.contents c.self.inside.under.now in
    let u = c.self.inside in
    let h = c.self.invariant in
    (quad_goes s u.quads.added u.quads.removed u.names.added u.names.removed u.after h c.args.quad.now c.remove.new.self.added c.remove.new.self.removed
    (c.in_ok-remove.ensures.ok s.quads (now s u.quads.added u.quads.removed u.names.added u.names.removed u.after h).quads (quads_led s u.quads.added u.quads.removed u.names.added u.names.removed u.after h) c.contains-beneath.ensures)).1
    ∙ ap (λ (v : Staging). staged v (without_quad v.now c.args.quad.now)) c.self.view_is
