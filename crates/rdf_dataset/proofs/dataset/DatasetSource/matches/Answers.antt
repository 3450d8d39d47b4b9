use Rattle.std.proofs.Common.{subst}
use Rattle.std.specs.Prelude.{OnOk, option_copied}
use Rattle.std.specs.FinSet as set
use Rattle.rdf_dataset.specs.State.{State, matches}
use Rattle.rdf_terms.specs.Lists.{AppendsOnce}
use Rattle.rdf_dataset.proofs.dataset.DatasetSource.matches.Goals as goal

pub returns-clause-found : goal.returns-clause-found
returns-clause-found c =
    let test = matches c.args.graph.now (option_copied c.args.subject) (option_copied c.args.predicate) (option_copied c.args.object) in
    subst (λ (s : State). OnOk c.matches.result (AppendsOnce (set.retain s.quads test) c.args.out.now.items c.matches.new.out.items)) c.self.view_is c.matches.ensures.found
