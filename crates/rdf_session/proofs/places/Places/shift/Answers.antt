use Rattle.std.proofs.Common.{◌≡◌, false, true, Some, cond, ◌∙◌, ap, refl, subst, sym}
use Rattle.std.specs.Prelude.{IsSome}
use Rattle.std.specs.FinMap as map
use Rattle.rdf_session.specs.History.{Marks}
use Rattle.rdf_session.specs.Inside.Marks.{Lists, marks_of}
use Rattle.rdf_session.proofs.ListedLemmas.{Puts, listed_updated, lists_moved, no_place, put_is}
use Rattle.rdf_session.proofs.MarkLemmas.{same}
use Rattle.rdf_session.proofs.PlaceLemmas.{place_found, place_updated}
use Rattle.rdf_session.proofs.places.Places.shift.Goals as goal
use Rattle.rdf_session.proofs.places.Places.shift.Goals.{in-Some, in_default}

pub invariant_of-self-2 : goal.invariant_of-self-2
invariant_of-self-2 c =
    let spot = c.args.new in
    let old = marks_of c.self.inside.by_name.entries in
    let after = c.get_mut.follows.lender spot.0 in
    let there : map.get old c.args.old.1.items ≡ Some c.args.old.0 = ap (λ (m : Marks). map.get m c.args.old.1.items) c.self.view_is ∙ c.requires.there in
    let found = place_found c.args.old.1.items c.self.inside.by_name.entries ∙ there in
    let puts : Puts spot.1.items spot.0 old (marks_of after.entries) = λ q.
    place_updated c.args.old.1 (Some spot.0) c.self.inside.by_name after ((c.get_mut.follows.holds spot.0).3 (subst (λ o. IsSome o) (sym found) refl)) q
    ∙ ap (λ n. cond (same q n) (Some spot.0) (map.get old q)) (sym c.requires.same_name) in
    elim c.match-get_mut.branch [
      | in-Some w ↦
          subst (λ i. Lists i.listed i.by_place.keys (marks_of i.by_name.entries)) (sym w.self-inside-is)
          (lists_moved c.self.inside.listed old (marks_of after.entries) c.args.old spot c.self.inside.by_place c.insert.new.self c.remove.new.self c.self.invariant there c.requires.same_name c.requires.elsewhere puts
          (λ q k. listed_updated spot true c.self.inside.by_place c.insert.new.self c.in_ok-insert.ensures.updates q k)
          (λ q k. listed_updated c.args.old false c.insert.new.self c.remove.new.self c.remove.ensures.updates q k))
      | in_default w ↦ absurd (no_place c.args.old.0 (w.in_default.ensures.value ∙ found))
    ]

pub returns-clause-ok : goal.returns-clause-ok
returns-clause-ok c =
    let spot = c.args.new in
    let old = marks_of c.self.inside.by_name.entries in
    let after = c.get_mut.follows.lender spot.0 in
    let there : map.get old c.args.old.1.items ≡ Some c.args.old.0 = ap (λ (m : Marks). map.get m c.args.old.1.items) c.self.view_is ∙ c.requires.there in
    let found = place_found c.args.old.1.items c.self.inside.by_name.entries ∙ there in
    let puts : Puts spot.1.items spot.0 old (marks_of after.entries) = λ q.
    place_updated c.args.old.1 (Some spot.0) c.self.inside.by_name after ((c.get_mut.follows.holds spot.0).3 (subst (λ o. IsSome o) (sym found) refl)) q
    ∙ ap (λ n. cond (same q n) (Some spot.0) (map.get old q)) (sym c.requires.same_name) in
    elim c.match-get_mut.branch [
      | in-Some w ↦
          ap (λ i. marks_of i.by_name.entries) w.self-inside-is ∙ put_is spot.1.items spot.0 old (marks_of after.entries) puts
          ∙ ap (λ (m : Marks). map.insert m spot.1.items spot.0) c.self.view_is
      | in_default w ↦ absurd (no_place c.args.old.0 (w.in_default.ensures.value ∙ found))
    ]
