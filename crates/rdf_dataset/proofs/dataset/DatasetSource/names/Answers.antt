use Rattle.std.proofs.Common.{subst}
use Rattle.std.specs.Prelude.{OnOk}
use Rattle.rdf_dataset.specs.State.{State}
use Rattle.rdf_terms.specs.Lists.{AppendsOnce}
use Rattle.rdf_dataset.proofs.dataset.DatasetSource.names.Goals as goal

pub returns-clause-ok : goal.returns-clause-ok
returns-clause-ok c =
    subst (λ (s : State). OnOk c.append_names.result (AppendsOnce s.names c.args.out.now.items c.append_names.new.out.items)) c.self.view_is c.append_names.ensures.ok
