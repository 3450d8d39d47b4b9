use Rattle.dataset_model.proofs.rounds.turn_back.Goals as goal

pub commit-requires : goal.commit-requires
commit-requires c = (c.requires.0, c.requires.1, c.reversed-back.ensures.between c.requires.0 c.args.dataset.now c.requires.2)
