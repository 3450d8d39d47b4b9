use Rattle.std.proofs.Common.{subst}
use Rattle.rdf_dataset.specs.State.{State}
use Rattle.rdf_terms.specs.Lists.{ListsSorted}
use Rattle.rdf_dataset.proofs.dataset.Dataset.quads.Goals as goal

pub returns : goal.returns
returns c = subst (λ (s : State). ListsSorted s.quads c.in_ok-quads.quads.items) c.self.view_is c.in_ok-quads.ensures
