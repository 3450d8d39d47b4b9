use Rattle.std.proofs.Common.{◌∙◌, sym, ap, subst}
use Rattle.rdf_dataset.specs.State.{State, IsQuadBelow, IsKnownGraph, applied, with_quad}
use Rattle.rdf_dataset.proofs.StateLemmas.{restaged, sound_with_quad, quad_there, not_false}
use Rattle.rdf_dataset.specs.Staging.{Staging, staged}
use Rattle.rdf_dataset.proofs.EmptiedLemmas.{restaged_with}
use Rattle.rdf_dataset.proofs.staged.Staged.insert.Goals as goal

pub invariant_of-self : goal.invariant_of-self
invariant_of-self g c =
    let u = g.D.Source.contents c.self.inside.under.now in
    let t = (applied c.self.inside.edits (g.D.Source.contents c.self.inside.under.now)) in
    restaged_with u (with_quad t c.args.quad) c.insert.new.self c.insert-in-Ok.new.self (c.in-Ok.ensures.ok u t c.self.invariant.0 c.contains-beneath.ensures (subst (λ (s : Staging). IsKnownGraph s.under.names c.knows-named.result c.args.quad.graph) (sym c.self.view_is) (subst (IsKnownGraph c.args.self.now.under.names c.knows-named.result) c.graph.ensures.value c.knows-named.ensures))) (sound_with_quad t c.args.quad c.self.invariant.1 c.graph.ensures.sound (subst (λ (s : Staging). IsQuadBelow s.now.next c.args.quad) (sym c.self.view_is) c.requires.below)) (c.insert-in-Ok.ensures t c.self.invariant.2)

pub returns-in-Ok-clause-ok : goal.returns-in-Ok-clause-ok
returns-in-Ok-clause-ok g c =
    let u = g.D.Source.contents c.self.inside.under.now in
    let t = (applied c.self.inside.edits (g.D.Source.contents c.self.inside.under.now)) in
    (restaged u (with_quad t c.args.quad) c.insert.new.self (c.in-Ok.ensures.ok u t c.self.invariant.0 c.contains-beneath.ensures (subst (λ (s : Staging). IsKnownGraph s.under.names c.knows-named.result c.args.quad.graph) (sym c.self.view_is) (subst (IsKnownGraph c.args.self.now.under.names c.knows-named.result) c.graph.ensures.value c.knows-named.ensures))) (sound_with_quad t c.args.quad c.self.invariant.1 c.graph.ensures.sound (subst (λ (s : Staging). IsQuadBelow s.now.next c.args.quad) (sym c.self.view_is) c.requires.below))).1
    ∙ ap (λ (s : Staging). staged s (with_quad s.now c.args.quad)) c.self.view_is

pub returns-in-Ok-clause-same : goal.returns-in-Ok-clause-same
returns-in-Ok-clause-same g c f =
    let t = (applied c.self.inside.edits (g.D.Source.contents c.self.inside.under.now)) in
    let there = not_false _ (sym f ∙ c.in-Ok.ensures.new (g.D.Source.contents c.self.inside.under.now) t c.self.invariant.0 c.contains-beneath.ensures) in
    returns-in-Ok-clause-ok g c ∙ ap (λ (s : Staging). staged c.args.self.now (with_quad s.now c.args.quad)) (sym c.self.view_is)
    ∙ ap (λ (t : State). staged c.args.self.now t) (quad_there t c.args.quad c.self.invariant.1 there) ∙ ap (λ (s : Staging). staged c.args.self.now s.now) c.self.view_is
