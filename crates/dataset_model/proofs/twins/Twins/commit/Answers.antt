use Rattle.std.proofs.Common.{subst}
use Rattle.rdf_dataset.specs.State.{Begins}
use Rattle.dataset_model.proofs.twins.Twins.commit.Goals as goal

pub commit-requires-2 : goal.commit-requires-2
commit-requires-2 c = record { begins = subst (λ s. Begins c.args.net.now s) c.requires.same c.requires.begins }
