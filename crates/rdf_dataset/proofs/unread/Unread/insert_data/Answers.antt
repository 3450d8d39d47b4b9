use Rattle.std.proofs.Common.{arith, ap, length}
use Rattle.rdf_dataset.proofs.InsertionLemmas.{inserting_ends, inserting_goes_on, none_left}
use Rattle.rdf_dataset.proofs.unread.Unread.insert_data.Goals as goal

pub loop-quad-preserved : goal.loop-quad-preserved
loop-quad-preserved g c =
    let next = c.in-Some-quad.ensures.steps in
    record {
      steps = tt;
      ends = tt;
      inserting = inserting_goes_on _ _ _ _ _ _ _ _ _ _ c.loop-quad.invariant.inserting next.0 c.quad_from.ensures c.in_ok-more.ensures;
      count = omega (arith, ap length next.0, next.1, c.loop-quad.invariant.count);
    }

pub returns : goal.returns
returns g c =
    let s = c.loop-quad.invariant.inserting in
    (s.limit, inserting_ends _ _ _ _ _ _ s (none_left _ _ c.loop-quad.invariant.count c.in-None.ensures.steps.0))
