use Rattle.refusals.proofs.datasets.insert.Goals as goal

pub insert-requires : goal.insert-requires
insert-requires c = record { below = c.in-Some.ensures _ }
