use Rattle.dataset_model.proofs.rounds.composed.Goals as goal

pub returns-in-Ok : goal.returns-in-Ok
returns-in-Ok c under now between begins = (begins.0, begins.1, c.in-Ok.ensures under now begins.0 between begins.2)
