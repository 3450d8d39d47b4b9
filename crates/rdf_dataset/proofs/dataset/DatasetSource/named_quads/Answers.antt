use Rattle.std.proofs.Common.{subst}
use Rattle.std.specs.Prelude.{OnOk}
use Rattle.std.specs.FinSet as set
use Rattle.rdf_dataset.specs.State.{State, in_named}
use Rattle.rdf_terms.specs.Lists.{AppendsOnce}
use Rattle.rdf_dataset.proofs.dataset.DatasetSource.named_quads.Goals as goal

pub returns-clause-found : goal.returns-clause-found
returns-clause-found c =
    subst (λ (s : State). OnOk c.named_quads.result (AppendsOnce (set.retain s.quads in_named) c.args.out.now.items c.named_quads.new.out.items)) c.self.view_is c.named_quads.ensures.found
