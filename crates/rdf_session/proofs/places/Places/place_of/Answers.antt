use Rattle.std.proofs.Common.{◌∙◌, ap}
use Rattle.std.specs.FinMap as map
use Rattle.rdf_session.specs.History.{Marks}
use Rattle.rdf_session.proofs.PlaceLemmas.{place_found}
use Rattle.rdf_session.proofs.places.Places.place_of.Goals as goal

pub returns : goal.returns
returns c =
    let name = c.args.name.now in
    c.copied.ensures ∙ c.get.ensures.value ∙ place_found name c.self.inside.by_name.entries ∙ ap (λ (m : Marks). map.get m name) c.self.view_is
