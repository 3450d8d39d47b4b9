use Rattle.std.proofs.Common.{refl}
use Rattle.dataset_model.proofs.twins.there_and_back.Goals as goal

pub revert-requires-clause-ends : goal.revert-requires-clause-ends
revert-requires-clause-ends c = c.if-not-commit.ensures.ends refl
