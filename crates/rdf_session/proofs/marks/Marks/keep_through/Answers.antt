use Rattle.std.proofs.Common.{◌∙◌, ap}
use Rattle.rdf_session.proofs.BehindLemmas.{marks_behind_upto}
use Rattle.rdf_session.specs.History.{marks_behind, marks_upto}
use Rattle.rdf_session.proofs.marks.Marks.keep_through.Goals as goal

pub returns : goal.returns
returns c =
    let gone = c.self.inside.gone in
    ap (marks_behind gone) c.keep_through.ensures ∙ marks_behind_upto gone c.args.place c.self.inside.places ∙ ap (marks_upto c.args.place) c.self.view_is
