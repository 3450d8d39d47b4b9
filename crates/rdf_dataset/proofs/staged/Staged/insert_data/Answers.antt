use Rattle.std.proofs.Common.{◌≡◌, arith, rules, sym, ap, subst, length}
use Rattle.std.specs.Vec.Iter.{into_iter_items, into_iter_len}
use Rattle.rdf_dataset.specs.State.{IsQuadBelow}
use Rattle.rdf_dataset.proofs.InsertionLemmas.{none_left, inserting_begins, inserting_ends, inserting_goes_on, room_after, room_before}
use Rattle.rdf_dataset.proofs.staged.Staged.insert_data.Goals as goal

pub loop-quad-init : goal.loop-quad-init
loop-quad-init g c =
    let all : into_iter_items c.into_iter-quad-iterator.result ≡ c.args.quads.items = search rules in
    let count : into_iter_len c.into_iter-quad-iterator.result ≡ length (into_iter_items c.into_iter-quad-iterator.result) = search rules in
    record {
      steps = tt;
      ends = tt;
      inserting = inserting_begins _ _ _ _ _ _ c.requires.below c.in-Some.ensures.0 c.in-Some.ensures.1 c.in-Some.ensures.2 all;
      count = count;
    }

pub quad_from-requires : goal.quad_from-requires
quad_from-requires g c = room_before _ _ _ _ _ _ _ _ c.loop-quad.invariant.inserting c.in-Some-quad.ensures.steps.0

pub insert-requires : goal.insert-requires
insert-requires g c =
    record { below = subst (IsQuadBelow c.loop-quad.self.now.next) (sym c.quad_from.ensures) (room_after _ _ _ _ _ _ _ _ c.loop-quad.invariant.inserting c.in-Some-quad.ensures.steps.0) }

pub loop-quad-preserved : goal.loop-quad-preserved
loop-quad-preserved g c =
    let next = c.in-Some-quad.ensures.steps in
    record {
      steps = tt;
      ends = tt;
      inserting = inserting_goes_on _ _ _ _ _ _ _ _ _ _ c.loop-quad.invariant.inserting next.0 c.quad_from.ensures c.in_ok-insert.ensures.ok;
      count = omega (arith, ap length next.0, next.1, c.loop-quad.invariant.count);
    }

pub returns-clause-ok : goal.returns-clause-ok
returns-clause-ok g c =
    let s = c.loop-quad.invariant.inserting in
    (s.limit, (s.from, inserting_ends _ _ _ _ _ _ s (none_left _ _ c.loop-quad.invariant.count c.in-None.ensures.steps.0)))
