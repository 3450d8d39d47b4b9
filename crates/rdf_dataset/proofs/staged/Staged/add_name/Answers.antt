use Rattle.std.proofs.Common.{◌∙◌, sym, ap, subst}
use Rattle.rdf_dataset.specs.State.{IsTermBelow, applied, with_name}
use Rattle.rdf_dataset.proofs.StateLemmas.{restaged, sound_with_name}
use Rattle.rdf_dataset.specs.Staging.{Staging, staged}
use Rattle.rdf_dataset.specs.Inside.Emptied.{AreParts}
use Rattle.rdf_dataset.proofs.EmptiedLemmas.{restaged_with}
use Rattle.rdf_dataset.proofs.staged.Staged.add_name.Goals as goal

pub invariant_of-self-2 : goal.invariant_of-self-2
invariant_of-self-2 g c =
    let u = g.D.Source.contents c.self.inside.under.now in
    let t = (applied c.self.inside.edits (g.D.Source.contents c.self.inside.under.now)) in
    restaged_with u (with_name t c.args.name) c.add_name.new.self c.add_name-2.new.self (c.in_ok-added.ensures.ok u t c.self.invariant.0 c.has_name-beneath.ensures) (sound_with_name t c.args.name c.self.invariant.1 c.term_is_one.ensures c.requires.right (subst (λ (s : Staging). IsTermBelow s.now.next c.args.name) (sym c.self.view_is) c.requires.below)) (subst (λ n. AreParts c.add_name-2.new.self (with_name t n)) c.in_ok-again.ensures (c.add_name-2.ensures t c.self.invariant.2))

pub returns-clause-ok : goal.returns-clause-ok
returns-clause-ok g c =
    let u = g.D.Source.contents c.self.inside.under.now in
    let t = (applied c.self.inside.edits (g.D.Source.contents c.self.inside.under.now)) in
    (restaged u (with_name t c.args.name) c.add_name.new.self (c.in_ok-added.ensures.ok u t c.self.invariant.0 c.has_name-beneath.ensures) (sound_with_name t c.args.name c.self.invariant.1 c.term_is_one.ensures c.requires.right (subst (λ (s : Staging). IsTermBelow s.now.next c.args.name) (sym c.self.view_is) c.requires.below))).1
    ∙ ap (λ (s : Staging). staged s (with_name s.now c.args.name)) c.self.view_is
