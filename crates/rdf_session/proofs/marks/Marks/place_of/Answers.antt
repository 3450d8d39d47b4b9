use Rattle.std.proofs.Common.{◌∙◌, ap, sym}
use Rattle.std.specs.FinMap as map
use Rattle.rdf_session.specs.History.{Marks}
use Rattle.rdf_session.proofs.PlaceLemmas.{nowhere_behind, place_behind}
use Rattle.rdf_session.proofs.marks.Marks.place_of.Goals as goal

pub returns-in_err-place_of : goal.returns-in_err-place_of
returns-in_err-place_of c =
    let name = c.args.name.now in
    c.from_residual.ensures ∙ nowhere_behind name c.self.inside.gone c.self.inside.places (sym c.in_err-place_of.ensures)
    ∙ ap (λ (m : Marks). map.get m name) c.self.view_is

pub returns : goal.returns
returns c =
    let name = c.args.name.now in
    place_behind name c.self.inside.gone c.self.inside.places c.checked_sub.result c.in_ok-place_of.field-0 (sym c.in_ok-place_of.ensures) c.checked_sub.ensures
    ∙ ap (λ (m : Marks). map.get m name) c.self.view_is
