use Rattle.std.proofs.Common.{◌∙◌, ap, sym, subst}
use Rattle.rdf_terms.specs.Below.{AreBelow}
use Rattle.rdf_dataset.specs.Insertion.{with_data}
use Rattle.rdf_dataset.specs.State.{empty_state}
use Rattle.rdf_dataset.proofs.GatheringLemmas.{gathered_sound, gathered_state}
use Rattle.rdf_dataset.proofs.gathering.Gathering.into_dataset.Goals as goal

pub invariant_of-result : goal.invariant_of-result
invariant_of-result c = gathered_sound c.in_ok-store.store c.self.inside.quads c.args.blanks c.in_ok-store.ensures.store (subst (AreBelow c.args.blanks) (sym c.self.view_is) c.requires.below) c.in_ok-store.ensures.sound c.requires.limit

pub returns : goal.returns
returns c =
    gathered_state c.in_ok-store.store c.self.inside.quads c.args.blanks c.in_ok-store.ensures.store (subst (AreBelow c.args.blanks) (sym c.self.view_is) c.requires.below)
    ∙ ap (λ quads. with_data (empty_state 0) quads c.args.blanks) c.self.view_is
