use Rattle.std.proofs.Common.{arith}
use Rattle.rdf_session.proofs.KeptLemmas.{marked_kept}
use Rattle.rdf_session.proofs.keeper.Keeper.mark.Goals as goal

pub invariant_of-self-2 : goal.invariant_of-self-2
invariant_of-self-2 c = rw c.in_ok-put.ensures.ok (marked_kept _ _ _ _ _ _ c.self.invariant.0 _ c.self.view_is _ _ (omega arith), c.self.invariant.1, c.self.invariant.2)
