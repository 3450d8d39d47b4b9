use Rattle.std.proofs.Common.{rules, ◌-◌, ◌∙◌, ap}
use Rattle.std.proofs.lemmas.Map.Made.{map_same_pairs}
use Rattle.rdf_session.specs.History.{marks_lower}
use Rattle.rdf_session.proofs.PlaceLemmas.{places_lowered}
use Rattle.rdf_session.proofs.places.Places.lower.Goals as goal

pub returns : goal.returns
returns c =
    let count = c.args.count in
    places_lowered count c.self.inside.by_name.entries _ (map_same_pairs _ (λ v. v - count) _ (λ k v b w f' t. search rules) _ _ c.retain.ensures.filtered)
    ∙ ap (marks_lower count) c.self.view_is
