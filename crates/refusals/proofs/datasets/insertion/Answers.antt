use Rattle.std.proofs.Common.{ap, ◌∙◌}
use Rattle.rdf_dataset.specs.State.{net_between}
use Rattle.refusals.proofs.datasets.insertion.Goals as goal

pub returns-in-Ok : goal.returns-in-Ok
returns-in-Ok c =
    let under = c.insert_both.ensures ∙ ap (λ s. s.under) c.over-view.ensures in
    (c.insert_both.new.view.now, c.in-Ok.ensures.sound, c.in-Ok.ensures.net ∙ ap (λ s. net_between s c.insert_both.new.view.now) under)
