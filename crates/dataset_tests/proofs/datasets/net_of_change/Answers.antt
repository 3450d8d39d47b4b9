use Rattle.std.proofs.Common.{IfSome, ap, subst, ◌∙◌}
use Rattle.rdf_dataset.specs.State.{State, Begins}
use Rattle.dataset_tests.proofs.datasets.net_of_change.Goals as goal

pub returns : goal.returns
returns c =
    let under = c.change.ensures ∙ ap (λ s. s.under) c.over-view.ensures in
    subst (λ (s : State). IfSome c.net_where.result (λ net. Begins net s)) under c.net_where.ensures
