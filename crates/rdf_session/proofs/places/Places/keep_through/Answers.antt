use Rattle.std.proofs.Common.{rules, None, ◌∙◌, ap, subst, sym}
use Rattle.std.specs.Prelude.{nat_le}
use Rattle.std.proofs.lemmas.Map.Made.{filter_same_pairs}
use Rattle.rdf_session.proofs.BehindLemmas.{is_gone}
use Rattle.rdf_session.proofs.ListedLemmas.{all_pass, upto_is, keeps_next, listed_upto, rest_passes}
use Rattle.rdf_session.proofs.PlaceLemmas.{place_updated, places_kept}
use Rattle.rdf_session.specs.History.{marks_upto}
use Rattle.rdf_session.specs.Inside.Marks.{Lists, marks_of}
use Rattle.rdf_session.proofs.places.Places.keep_through.Goals as goal

pub loop-name-preserved : goal.loop-name-preserved
loop-name-preserved c =
    let place = c.args.place in
    let before = c.loop-name.self-inside in
    let marks = marks_of before.by_name.entries in
    let first = marks_of c.self.inside.by_name.entries in
    keeps_next (λ k. nat_le k place) before.listed (c.in-Some.field-0-0, c.in-Some.name) before.by_place.keys c.pop_past.new.spots.keys marks (marks_of c.remove.new.self.entries) first c.loop-name.invariant c.in-Some.ensures.some.1
    (is_gone c.in-Some.field-0-0 place c.in-Some.ensures.some.0) (place_updated c.in-Some.name None before.by_name c.remove.new.self c.remove.ensures.updates)

pub invariant_of-self : goal.invariant_of-self
invariant_of-self c =
    let place = c.args.place in
    let before = c.loop-name.self-inside in
    let marks = marks_of before.by_name.entries in
    let first = marks_of c.self.inside.by_name.entries in
    let left = places_kept (λ k. nat_le k place) before.by_name.entries c.retain.new.self.entries c.retain.ensures.was_ordered
    (filter_same_pairs _ (λ e. nat_le e.1 place) _ (λ k v b w f' t. search rules) before.by_name.entries c.retain.new.self.entries c.retain.ensures.filtered) in
    let pass = listed_upto place before.by_place.keys c.in_default.ensures.none.1 in
    subst (λ spots. Lists before.listed spots (marks_of c.retain.new.self.entries)) (sym c.in_default.ensures.none.0)
    (rest_passes (λ k. nat_le k place) before.listed before.by_place.keys marks first c.loop-name.invariant pass (marks_of c.retain.new.self.entries) c.if-not-self.true left)

pub returns-then-not-self : goal.returns-then-not-self
returns-then-not-self c =
    let place = c.args.place in
    let before = c.loop-name.self-inside in
    let marks = marks_of before.by_name.entries in
    let first = marks_of c.self.inside.by_name.entries in
    let left = places_kept (λ k. nat_le k place) before.by_name.entries c.retain.new.self.entries c.retain.ensures.was_ordered
    (filter_same_pairs _ (λ e. nat_le e.1 place) _ (λ k v b w f' t. search rules) before.by_name.entries c.retain.new.self.entries c.retain.ensures.filtered) in
    upto_is place (marks_of c.retain.new.self.entries) first (λ q. left q ∙ c.loop-name.invariant.passing q) ∙ ap (marks_upto place) c.self.view_is

pub returns-else-not-self : goal.returns-else-not-self
returns-else-not-self c =
    let place = c.args.place in
    let before = c.loop-name.self-inside in
    let marks = marks_of before.by_name.entries in
    let first = marks_of c.self.inside.by_name.entries in
    let pass = listed_upto place before.by_place.keys c.in_default.ensures.none.1 in
    upto_is place marks first (all_pass (λ k. nat_le k place) before.listed before.by_place.keys marks first c.loop-name.invariant pass c.if-not-self.false) ∙ ap (marks_upto place) c.self.view_is
