use Rattle.std.proofs.Common.{◌∙◌, ap}
use Rattle.std.specs.Prelude.{option_copied}
use Rattle.std.specs.FinSet as set
use Rattle.std.proofs.lemmas.Result.{IfOk-weaker}
use Rattle.rdf_dataset.specs.State.{applied, matches}
use Rattle.rdf_dataset.specs.Staging.{Staging}
use Rattle.rdf_dataset.proofs.StoredLemmas.{some_shown}
use Rattle.rdf_dataset.proofs.staged.StagedSource.some_matches.Goals as goal

pub returns-in-Some-clause-found : goal.returns-in-Some-clause-found
returns-in-Some-clause-found g c =
    let t = applied c.self.inside.edits (g.D.Source.contents c.self.inside.under.now) in
    let test = matches c.args.graph.now (option_copied c.args.subject) (option_copied c.args.predicate) (option_copied c.args.object) in
    let here = c.in-Some.ensures t c.self.invariant.2 (option_copied c.args.subject) (option_copied c.args.predicate) (option_copied c.args.object) in
    IfOk-weaker c.some_matches.result _ _ (λ all a. some_shown _ _ all _ _ (here ∙ ap (λ (s : Staging). set.retain s.now.quads test) c.self.view_is) a) c.some_matches.ensures.found
