use Rattle.std.proofs.Common.{refl, arith}
use Rattle.rdf_session.proofs.ForgettingLemmas.{none_within}
use Rattle.rdf_session.proofs.KeptLemmas.{sound_now}
use Rattle.rdf_session.proofs.MarkLemmas.{lie_nowhere}
use Rattle.rdf_session.proofs.keeper.Keeper.commit.Goals as goal

pub invariant_of-self : goal.invariant_of-self
invariant_of-self c =
    rw (c.clear.ensures.items, c.clear-2.ensures, c.clear-3.ensures) (
      record { sound = sound_now _ _ _ _ _ c.self.inside.marks c.self.invariant.0 _ c.self.view_is; nets = tt; current = refl; within = omega arith; marks_within = lie_nowhere 0 },
      (c.self.invariant.1.0, none_within c.self.inside.depth),
      record { within = omega arith; leads = refl },
    )
