use Rattle.std.proofs.Common.{IfSome, ap, subst, ◌∙◌}
use Rattle.rdf_dataset.specs.State.{State, Begins}
use Rattle.dataset_model.proofs.rounds.changed.Goals as goal

pub returns : goal.returns
returns c =
    let under = c.changed_twice-upper.ensures.under ∙ ap (λ s. s.under) c.over-staged.ensures in
    subst (λ (s : State). IfSome c.joined.result (λ net. Begins net s)) under c.joined.ensures
