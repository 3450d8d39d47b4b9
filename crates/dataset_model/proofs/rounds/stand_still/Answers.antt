use Rattle.std.proofs.Common.{sym}
use Rattle.dataset_model.proofs.rounds.stand_still.Goals as goal

pub commit-requires : goal.commit-requires
commit-requires c = (c.args.dataset.now, c.next_blank.ensures.sound, c.empty-nothing.ensures c.args.dataset.now (sym c.next_blank.ensures.value))
