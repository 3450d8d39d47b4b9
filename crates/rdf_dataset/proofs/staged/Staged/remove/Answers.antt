use Rattle.std.proofs.Common.{◌∙◌, ap}
use Rattle.rdf_dataset.specs.State.{applied, without_quad}
use Rattle.rdf_dataset.proofs.StateLemmas.{restaged, sound_without_quad}
use Rattle.rdf_dataset.specs.Staging.{Staging, staged}
use Rattle.rdf_dataset.proofs.EmptiedLemmas.{restaged_with}
use Rattle.rdf_dataset.proofs.staged.Staged.remove.Goals as goal

pub invariant_of-self-2 : goal.invariant_of-self-2
invariant_of-self-2 g c =
    let u = g.D.Source.contents c.self.inside.under.now in
    let t = (applied c.self.inside.edits (g.D.Source.contents c.self.inside.under.now)) in
    restaged_with u (without_quad t c.args.quad.now) c.remove.new.self c.remove-2.new.self (c.in_ok-removed.ensures.ok u t c.self.invariant.0 c.contains-beneath.ensures) (sound_without_quad t c.args.quad.now c.self.invariant.1) (c.remove-2.ensures t c.self.invariant.2)

pub returns-clause-ok : goal.returns-clause-ok
returns-clause-ok g c =
    let u = g.D.Source.contents c.self.inside.under.now in
    let t = (applied c.self.inside.edits (g.D.Source.contents c.self.inside.under.now)) in
    (restaged u (without_quad t c.args.quad.now) c.remove.new.self (c.in_ok-removed.ensures.ok u t c.self.invariant.0 c.contains-beneath.ensures) (sound_without_quad t c.args.quad.now c.self.invariant.1)).1
    ∙ ap (λ (s : Staging). staged s (without_quad s.now c.args.quad.now)) c.self.view_is
