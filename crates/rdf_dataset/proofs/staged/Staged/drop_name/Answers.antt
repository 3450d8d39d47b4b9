use Rattle.std.proofs.Common.{◌∙◌, sym, ap, subst}
use Rattle.rdf_dataset.specs.State.{IsEmptyGraph, applied, without_name}
use Rattle.rdf_terms.specs.declared.quad.GraphName.TheVariants.{Named}
use Rattle.rdf_dataset.proofs.StateLemmas.{restaged, sound_without_name}
use Rattle.rdf_dataset.specs.Staging.{Staging, staged}
use Rattle.rdf_dataset.proofs.EmptiedLemmas.{restaged_with}
use Rattle.rdf_dataset.proofs.staged.Staged.drop_name.Goals as goal

pub invariant_of-self-2 : goal.invariant_of-self-2
invariant_of-self-2 g c =
    let u = g.D.Source.contents c.self.inside.under.now in
    let t = (applied c.self.inside.edits (g.D.Source.contents c.self.inside.under.now)) in
    restaged_with u (without_name t c.args.name.now) c.drop_name.new.self c.drop_name-2.new.self (c.in_ok-dropped.ensures.ok u t c.self.invariant.0 c.has_name-beneath.ensures) (sound_without_name t c.args.name.now c.self.invariant.1 (subst (λ (s : Staging). IsEmptyGraph s.now (Named c.args.name.now)) (sym c.self.view_is) c.requires.empty)) (c.drop_name-2.ensures t c.self.invariant.2)

pub returns-clause-ok : goal.returns-clause-ok
returns-clause-ok g c =
    let u = g.D.Source.contents c.self.inside.under.now in
    let t = (applied c.self.inside.edits (g.D.Source.contents c.self.inside.under.now)) in
    (restaged u (without_name t c.args.name.now) c.drop_name.new.self (c.in_ok-dropped.ensures.ok u t c.self.invariant.0 c.has_name-beneath.ensures) (sound_without_name t c.args.name.now c.self.invariant.1 (subst (λ (s : Staging). IsEmptyGraph s.now (Named c.args.name.now)) (sym c.self.view_is) c.requires.empty))).1
    ∙ ap (λ (s : Staging). staged s (without_name s.now c.args.name.now)) c.self.view_is
