use Rattle.std.proofs.Common.{sym, subst}
use Rattle.rdf_dataset.specs.State.{Ends}
use Rattle.refusals.proofs.datasets.comes_back.Goals as goal

pub reverts-requires-then-at_back : goal.reverts-requires-then-at_back
reverts-requires-then-at_back c = subst (λ s. Ends c.args.net.now s) (sym (rw c.if-reverts.false at c.reverts.ensures)) c.requires
