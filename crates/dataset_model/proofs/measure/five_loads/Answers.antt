use Rattle.std.proofs.Common.{sym}
use Rattle.dataset_model.proofs.measure.five_loads.Goals as goal

pub loop-init : goal.loop-init
loop-init g c = (_, c.next_blank.ensures.sound, c.empty-all.ensures _ (sym c.next_blank.ensures.value))
