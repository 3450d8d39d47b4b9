use Rattle.std.proofs.Common.{◌∙◌, ap}
use Rattle.std.proofs.lemmas.Result.{on_ok_weaker}
use Rattle.std.specs.FinMap as map
use Rattle.rdf_session.proofs.BehindLemmas.{marks_behind_insert}
use Rattle.rdf_session.specs.History.{marks_behind}
use Rattle.rdf_session.proofs.marks.Marks.put.Goals as goal

pub returns-clause-ok : goal.returns-clause-ok
returns-clause-ok c =
    let gone = c.self.inside.gone in
    let name = c.args.name.now in
    on_ok_weaker c.put.result (λ e. ap (marks_behind gone) e ∙ marks_behind_insert gone c.args.place name c.self.inside.places ∙ (λ i. map.insert (c.self.view_is i) name c.args.place)) c.put.ensures.ok
