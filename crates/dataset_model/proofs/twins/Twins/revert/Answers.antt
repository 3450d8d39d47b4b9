use Rattle.std.proofs.Common.{subst}
use Rattle.rdf_dataset.specs.State.{Ends}
use Rattle.dataset_model.proofs.twins.Twins.revert.Goals as goal

pub revert-requires-2 : goal.revert-requires-2
revert-requires-2 c = record { ends = subst (λ s. Ends c.args.net.now s) c.requires.same c.requires.ends }
