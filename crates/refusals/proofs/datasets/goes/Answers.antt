use Rattle.std.proofs.Common.{sym, subst}
use Rattle.rdf_dataset.specs.State.{Begins}
use Rattle.refusals.proofs.datasets.goes.Goals as goal

pub commits-requires-then-at_front : goal.commits-requires-then-at_front
commits-requires-then-at_front c = subst (λ s. Begins c.args.net.now s) (sym (rw c.if-commits.false at c.commits.ensures)) c.requires
