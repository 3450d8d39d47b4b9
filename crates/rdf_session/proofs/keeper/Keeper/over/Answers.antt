use Rattle.std.proofs.Common.{refl, arith}
use Rattle.rdf_session.proofs.MarkLemmas.{lie_nowhere}
use Rattle.rdf_session.proofs.keeper.Keeper.over.Goals as goal

pub invariant_of-result : goal.invariant_of-result
invariant_of-result c = rw (c.new.ensures.items, c.new-2.ensures, c.new-3.ensures) (record { sound = c.next_blank-sound.ensures.sound; nets = tt; current = refl; within = omega arith; marks_within = lie_nowhere 0 }, (tt, tt), record { within = omega arith; leads = refl })
