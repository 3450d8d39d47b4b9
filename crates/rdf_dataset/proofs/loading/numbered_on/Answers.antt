use Rattle.std.proofs.Common.{◌≡◌, arith, rules, ap, length, inl, inr}
use Rattle.std.specs.Vec.Iter.{into_iter_items, into_iter_len}
use Rattle.rdf_dataset.proofs.InsertionLemmas.{none_left}
use Rattle.rdf_dataset.proofs.LoadingLemmas.{all_stay, next_has_room, numbering_begins, numbering_ends, numbering_goes_on}
use Rattle.rdf_dataset.proofs.loading.numbered_on.Goals as goal

pub returns-then-first-eq0 : goal.returns-then-first-eq0
returns-then-first-eq0 c =
    elim c.then-first-eq0.either [
      | inl e ↦ all_stay c.args.first c.args.blanks c.args.quads.items (inl e) c.requires.below
      | inr e ↦ all_stay c.args.first c.args.blanks c.args.quads.items (inr e.1) c.requires.below
    ]

pub loop-quad-init : goal.loop-quad-init
loop-quad-init c =
    let all : into_iter_items c.into_iter-quad-iterator.result ≡ c.args.quads.items = search rules in
    let count : into_iter_len c.into_iter-quad-iterator.result ≡ length (into_iter_items c.into_iter-quad-iterator.result) = search rules in
    record {
      steps = tt;
      ends = tt;
      numbering = numbering_begins _ _ _ _ _ c.requires.below c.in_ok-moved.ensures.items all;
      count = count;
    }

pub quad_from-requires : goal.quad_from-requires
quad_from-requires c = next_has_room _ _ _ _ _ _ _ c.loop-quad.invariant.numbering c.requires.room c.in-Some.ensures.steps.0

pub loop-quad-preserved : goal.loop-quad-preserved
loop-quad-preserved c =
    let next = c.in-Some.ensures.steps in
    record {
      steps = tt;
      ends = tt;
      numbering = numbering_goes_on _ _ _ _ _ _ _ _ _ c.loop-quad.invariant.numbering next.0 c.quad_from.ensures c.in_ok-push.ensures.items;
      count = omega (arith, ap length next.0, next.1, c.loop-quad.invariant.count);
    }

pub returns : goal.returns
returns c = numbering_ends _ _ _ _ _ c.loop-quad.invariant.numbering (none_left _ _ c.loop-quad.invariant.count c.in-None.ensures.steps.0)
