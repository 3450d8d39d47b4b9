use Rattle.std.proofs.Common.{IfSome, ap, subst, ◌∙◌}
use Rattle.rdf_dataset.specs.State.{State, Begins}
use Rattle.dataset_model.proofs.rounds.changed_above.Goals as goal

pub returns : goal.returns
returns g c =
    let under = c.change-agrees.ensures ∙ ap (λ s. s.under) c.over-staged.ensures in
    subst (λ (s : State). IfSome c.net_where.result (λ net. Begins net s)) under c.net_where.ensures
