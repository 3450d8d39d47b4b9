use Rattle.std.proofs.Common.{subst}
use Rattle.std.proofs.lemmas.Result.{on_ok_weaker}
use Rattle.rdf_dataset.specs.Staging.{Staging}
use Rattle.rdf_dataset.specs.Inside.Emptied.{AreNames}
use Rattle.rdf_dataset.proofs.EmptiedLemmas.{names_listed}
use Rattle.rdf_dataset.proofs.staged.StagedSource.names.Goals as goal

pub returns-in-Some-clause-ok : goal.returns-in-Some-clause-ok
returns-in-Some-clause-ok g c =
    on_ok_weaker c.append_copies.result
    (λ e. names_listed c.self.inside.emptied.names c.in-Some.names c.args.out.now.items _ c.args.self.now.now.names c.in-Some.is
    (subst (λ (s : Staging). AreNames c.self.inside.emptied.names s.now.names) c.self.view_is c.self.invariant.2.of_graphs) c.append_copies.ensures.sorted e)
    c.append_copies.ensures.ok
