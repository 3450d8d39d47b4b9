use Rattle.std.proofs.Common.{subst}
use Rattle.rdf_dataset.specs.State.{State}
use Rattle.rdf_terms.specs.Lists.{ListsSorted}
use Rattle.rdf_dataset.proofs.StoredLemmas.{lists_gained}
use Rattle.rdf_dataset.proofs.dataset.Dataset.names_sorted.Goals as goal

pub returns : goal.returns
returns c =
    subst (λ (s : State). ListsSorted s.names c.in_order.result.items) c.self.view_is
    (c.in_order.ensures c.self.inside.store.names (lists_gained c.self.inside.store.names _ _ c.in_ok-append_names.ensures.ok c.new-names.ensures.items))
