use Rattle.std.proofs.Common.{ap}
use Rattle.std.specs.Prelude.{option_copied}
use Rattle.std.specs.FinSet as set
use Rattle.std.proofs.lemmas.Result.{IfOk-weaker}
use Rattle.rdf_dataset.specs.State.{State, matches}
use Rattle.rdf_dataset.proofs.StoredLemmas.{some_shown}
use Rattle.rdf_dataset.proofs.dataset.DatasetSource.some_matches.Goals as goal

pub returns-clause-found : goal.returns-clause-found
returns-clause-found c =
    let test = matches c.args.graph.now (option_copied c.args.subject) (option_copied c.args.predicate) (option_copied c.args.object) in
    IfOk-weaker c.some_matches.result _ _ (λ all a. some_shown _ _ all _ _ (ap (λ (s : State). set.retain s.quads test) c.self.view_is) a) c.some_matches.ensures.found
