use Rattle.std.proofs.Common.{◌≡◌, ◌<◌, length, arith}
use Rattle.std.specs.FinSet as set
use Rattle.rdf_sets.proofs.CommonLemmas.{next_in, next_out}
use Rattle.rdf_sets.proofs.SortedLemmas.{found_has, gap_has_not}
use Rattle.rdf_sets.proofs.KeepLemmas.{passed_before, passed_after}
use Rattle.rdf_sets.proofs.sorted.common_items.Goals.{in-Ok+in_ok-append_copy-in-Ok, in-Err}
use Rattle.rdf_sets.proofs.sorted.common_items.Goals as goal

pub find_from-requires-clause-before : goal.find_from-requires-clause-before
find_from-requires-clause-before g c =
    passed_before g.met.T.Item.in_order g.met.T.Item.apart c.args.others.now c.args.items.now c.index-items-place.result c.loop-place.place c.loop-place.passed
    c.loop-place-test.true c.index-items-place.is c.loop-place.invariant.passed

pub loop-place-preserved : goal.loop-place-preserved
loop-place-preserved g c =
    elim c.match-find_from.branch [
      | in-Ok+in_ok-append_copy-in-Ok w ↦
          let found = w.in-Ok.ensures.found in
          let bound : w.in-Ok.found < length c.args.others.now = found.inside in
          rw (w.common-is, w.passed-is) (record {
            common = next_in (λ x. set.contains (set.from_list {R = g.T.Item.order} c.args.others.now) x) c.args.items.now c.loop-place.common.items c.loop-place.place c.index-items-place.result
                c.loop-place-test.true c.index-items-place.is c.loop-place.invariant.common _
                (found_has g.met.T.Item.in_order g.met.T.Item.apart c.args.others.now c.index-items-place.result w.in-Ok.found found) w.in_ok-append_copy-in-Ok.ensures.ok;
            inside = omega arith;
            passed = passed_after g.met.T.Item.in_order g.met.T.Item.apart c.args.others.now c.args.items.now c.index-items-place.result c.loop-place.place w.in-Ok.found c.requires.items
                c.loop-place-test.true c.index-items-place.is w.in-Ok.ensures.less;
          })
      | in-Err w ↦
          let gap = w.in-Err.ensures.absent in
          rw (w.common-is, w.passed-is) (record {
            common = next_out (λ x. set.contains (set.from_list {R = g.T.Item.order} c.args.others.now) x) c.args.items.now c.loop-place.common.items c.loop-place.place c.index-items-place.result
                c.loop-place-test.true c.index-items-place.is c.loop-place.invariant.common
                (gap_has_not g.met.T.Item.in_order g.met.T.Item.apart c.args.others.now c.index-items-place.result w.in-Err.gap gap);
            inside = gap.inside;
            passed = passed_after g.met.T.Item.in_order g.met.T.Item.apart c.args.others.now c.args.items.now c.index-items-place.result c.loop-place.place w.in-Err.gap c.requires.items
                c.loop-place-test.true c.index-items-place.is gap.before;
          })
    ]
