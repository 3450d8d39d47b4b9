use Rattle.std.proofs.Common.{◌≡◌, ℕ, List, true, Some, None, cond, ◌∙◌, ap, subst, sym}
use Rattle.std.specs.FinMap as map
use Rattle.rdf_session.specs.History.{Marks}
use Rattle.rdf_session.specs.Inside.Marks.{Lists, Spot, marks_of}
use Rattle.rdf_session.proofs.ListedLemmas.{Puts, listed_updated, lists_added, put_back, put_is}
use Rattle.rdf_session.proofs.MarkLemmas.{same}
use Rattle.rdf_session.proofs.PlaceLemmas.{place_updated}
use Rattle.rdf_session.proofs.places.Places.add.Goals as goal

pub invariant_of-self-in-Err : goal.invariant_of-self-in-Err
invariant_of-self-in-Err c =
    let name = c.args.name.items in
    let place = c.args.spot.0 in
    let old = marks_of c.self.inside.by_name.entries in
    let new = marks_of c.insert.new.self.entries in
    let last = marks_of c.remove.new.self.entries in
    let nowhere : map.get old name ≡ None = ap (λ (m : Marks). map.get m name) c.self.view_is ∙ c.requires.nowhere in
    let puts : Puts name place old new = place_updated c.args.name (Some place) c.self.inside.by_name c.insert.new.self c.in_ok-insert.ensures.updates in
    let drops : (q : List ℕ) → map.get last q ≡ cond (same q name) None (map.get new q) = λ q.
    place_updated c.in-Err.refused.value.1 None c.insert.new.self c.remove.new.self c.remove.ensures.updates q
    ∙ ap (λ (s : Spot). cond (same q s.1.items) None (map.get new q)) c.in-Err.ensures.value_returned
    ∙ ap (λ n. cond (same q n) None (map.get new q)) c.requires.same_name in
    let back : last ≡ old = put_back name place old new last nowhere puts drops in
    subst (λ spots. Lists c.self.inside.listed spots last) (sym c.in-Err.ensures.err) (subst (λ (m : Marks). Lists c.self.inside.listed c.self.inside.by_place.keys m) (sym back) c.self.invariant)

pub returns-in-Err-clause-err : goal.returns-in-Err-clause-err
returns-in-Err-clause-err c =
    let name = c.args.name.items in
    let place = c.args.spot.0 in
    let old = marks_of c.self.inside.by_name.entries in
    let new = marks_of c.insert.new.self.entries in
    let last = marks_of c.remove.new.self.entries in
    let nowhere : map.get old name ≡ None = ap (λ (m : Marks). map.get m name) c.self.view_is ∙ c.requires.nowhere in
    let puts : Puts name place old new = place_updated c.args.name (Some place) c.self.inside.by_name c.insert.new.self c.in_ok-insert.ensures.updates in
    let drops : (q : List ℕ) → map.get last q ≡ cond (same q name) None (map.get new q) = λ q.
    place_updated c.in-Err.refused.value.1 None c.insert.new.self c.remove.new.self c.remove.ensures.updates q
    ∙ ap (λ (s : Spot). cond (same q s.1.items) None (map.get new q)) c.in-Err.ensures.value_returned
    ∙ ap (λ n. cond (same q n) None (map.get new q)) c.requires.same_name in
    let back : last ≡ old = put_back name place old new last nowhere puts drops in
    back ∙ c.self.view_is

pub invariant_of-self-in_default : goal.invariant_of-self-in_default
invariant_of-self-in_default c =
    let spot = c.args.spot in
    let old = marks_of c.self.inside.by_name.entries in
    let new = marks_of c.insert.new.self.entries in
    let s = c.self.inside.by_place in
    let t = c.insert-2.new.self in
    let nowhere : map.get old spot.1.items ≡ None = ap (λ (m : Marks). map.get m spot.1.items) c.self.view_is ∙ ap (map.get c.args.self.now) c.requires.same_name ∙ c.requires.nowhere in
    let puts : Puts spot.1.items spot.0 old new = λ q.
    place_updated c.args.name (Some spot.0) c.self.inside.by_name c.insert.new.self c.in_ok-insert.ensures.updates q
    ∙ ap (λ n. cond (same q n) (Some spot.0) (map.get old q)) (sym c.requires.same_name) in
    lists_added c.self.inside.listed old new spot s t c.self.invariant nowhere puts (λ q k. listed_updated spot true s t c.in_default.ensures.updates q k)

pub returns-clause-ok : goal.returns-clause-ok
returns-clause-ok c =
    let name = c.args.name.items in
    let place = c.args.spot.0 in
    put_is name place (marks_of c.self.inside.by_name.entries) (marks_of c.insert.new.self.entries) (place_updated c.args.name (Some place) c.self.inside.by_name c.insert.new.self c.in_ok-insert.ensures.updates)
    ∙ ap (λ (m : Marks). map.insert m name place) c.self.view_is
