use Rattle.std.proofs.Common.{◌≡◌, Some, sym, ap, ◌∙◌, subst}
use Rattle.rdf_dataset.specs.State.{fits_place}
use Rattle.sparql_algebra.proofs.CallerLemmas.{and_left, and_right}
use Rattle.sparql_values.specs.Mapping.{Mapping}
use Rattle.sparql_solve.specs.Grown.{IsPut}
use Rattle.sparql_solve.specs.Matching.{assigned, held}
use Rattle.sparql_solve.proofs.SpotLemmas.{all_put, put_object, put_predicate, put_subject}
use Rattle.sparql_solve.proofs.grown.grown_plainly.Goals as goal

pub set_at-requires : goal.set_at-requires
set_at-requires c =
    let m = c.args.values.now in
    let p = c.args.places.now in
    let q = c.args.quad in
    let u = c.into_parts-subject.result.2 in
    let is : u ≡ q.predicate = λ i. (c.into_parts-subject.ensures.value i).2 in
    record {
      put = subst (λ (k : Mapping). IsPut c.args.spots.predicate k p.predicate u) (sym c.in_ok-out.ensures)
          (put_predicate m p c.args.spots c.requires.told u
          (ap (fits_place (held m p.predicate)) is
          ∙ and_left (fits_place (held m p.predicate) q.predicate) _ (and_right (fits_place (held m p.subject) q.subject) _ c.requires.held)));
      told = c.requires.all.predicate;
    }

pub set_at-requires-2 : goal.set_at-requires-2
set_at-requires-2 c =
    let m = c.args.values.now in
    let p = c.args.places.now in
    let q = c.args.quad in
    let u = c.into_parts-subject.result.1 in
    let v = c.into_parts-subject.result.2 in
    let is : u ≡ q.subject = λ i. (c.into_parts-subject.ensures.value i).1 in
    record {
      put = put_subject m p c.args.spots c.requires.told u v c.set_at.new.values.items
          (ap (fits_place (held m p.subject)) is ∙ and_left (fits_place (held m p.subject) q.subject) _ c.requires.held)
          (ap (λ (k : Mapping). assigned k p.predicate v) (sym c.in_ok-out.ensures) ∙ c.set_at.ensures);
      told = c.requires.all.subject;
    }

pub set_at-requires-3 : goal.set_at-requires-3
set_at-requires-3 c =
    let m = c.args.values.now in
    let p = c.args.places.now in
    let q = c.args.quad in
    let u = c.into_parts-subject.result.3 in
    let v = c.into_parts-subject.result.2 in
    let is : u ≡ q.object = λ i. (c.into_parts-subject.ensures.value i).3 in
    record {
      put = put_object m p c.args.spots c.requires.told u v c.into_parts-subject.result.1 c.set_at.new.values.items c.set_at-2.new.values.items
          (ap (fits_place (held m p.object)) is
          ∙ and_right (fits_place (held m p.predicate) q.predicate) _ (and_right (fits_place (held m p.subject) q.subject) _ c.requires.held))
          (ap (λ (k : Mapping). assigned k p.predicate v) (sym c.in_ok-out.ensures) ∙ c.set_at.ensures) c.set_at-2.ensures;
      told = c.requires.all.object;
    }

pub returns : goal.returns
returns c =
    let m = c.args.values.now in
    let p = c.args.places.now in
    let parts = c.into_parts-subject.ensures.value in
    all_put m c.set_at.new.values.items c.set_at-2.new.values.items c.set_at-3.new.values.items p c.args.quad
    (ap (assigned m p.predicate) (sym (λ i. (parts i).2)) ∙ ap (λ (k : Mapping). assigned k p.predicate c.into_parts-subject.result.2) (sym c.in_ok-out.ensures) ∙ c.set_at.ensures)
    (ap (assigned c.set_at.new.values.items p.subject) (sym (λ i. (parts i).1)) ∙ c.set_at-2.ensures)
    (ap (assigned c.set_at-2.new.values.items p.object) (sym (λ i. (parts i).3)) ∙ c.set_at-3.ensures)
    ∙ ap (λ (k : Mapping). Some k) (sym c.plain.ensures)
