use Rattle.std.proofs.Common.{◌≡◌, ◌<◌, ap, not, length, arith}
use Rattle.std.proofs.lemmas.List.Filters.{FiltersInPlace-more_no, FiltersInPlace-more_swap}
use Rattle.rdf_sets.proofs.SortedLemmas.{found_has, gap_has_not}
use Rattle.rdf_sets.proofs.KeepLemmas.{passed_before, passed_after, same_item}
use Rattle.rdf_sets.proofs.sorted.keep_others.Goals.{in-Ok, in-Err}
use Rattle.rdf_sets.proofs.sorted.keep_others.Goals as goal

pub find_from-requires-clause-before : goal.find_from-requires-clause-before
find_from-requires-clause-before g c =
    let f = c.loop-place.invariant.filters in
    let long : length c.loop-place.items.items ≡ length c.args.items.now.items = f.long in
    let inside : c.loop-place.place < length c.args.items.now.items = omega arith in
    let here : c.loop-place.place < length c.loop-place.items.items = omega arith in
    let is = same_item c.args.items.now.items c.loop-place.items.items c.loop-place.place c.index.result.now f.rest inside here c.index.ensures in
    passed_before g.met.T.Item.in_order g.met.T.Item.apart c.args.others.now c.args.items.now.items c.index.result.now c.loop-place.place c.loop-place.passed inside is c.loop-place.invariant.passed

pub loop-place-preserved : goal.loop-place-preserved
loop-place-preserved g c =
    let f = c.loop-place.invariant.filters in
    let long : length c.loop-place.items.items ≡ length c.args.items.now.items = f.long in
    let inside : c.loop-place.place < length c.args.items.now.items = omega arith in
    let here : c.loop-place.place < length c.loop-place.items.items = omega arith in
    let is = same_item c.args.items.now.items c.loop-place.items.items c.loop-place.place c.index.result.now f.rest inside here c.index.ensures in
    elim c.match-find_from.branch [
      | in-Ok w ↦
          let found = w.in-Ok.ensures.found in
          let bound : w.in-Ok.found < length c.args.others.now = found.inside in
          rw (w.items-is, w.kept-is, w.passed-is) (record {
            filters = FiltersInPlace-more_no f here (ap not (found_has g.met.T.Item.in_order g.met.T.Item.apart c.args.others.now c.index.result.now w.in-Ok.found found)) c.index.ensures;
            inside = omega arith;
            passed = passed_after g.met.T.Item.in_order g.met.T.Item.apart c.args.others.now c.args.items.now.items c.index.result.now c.loop-place.place w.in-Ok.found c.requires.items inside is w.in-Ok.ensures.less;
          })
      | in-Err w ↦
          let gap = w.in-Err.ensures.absent in
          rw (w.items-is, w.kept-is, w.passed-is) (record {
            filters = FiltersInPlace-more_swap f here (ap not (gap_has_not g.met.T.Item.in_order g.met.T.Item.apart c.args.others.now c.index.result.now w.in-Err.gap gap)) c.index.ensures w.swap.ensures.by_index;
            inside = gap.inside;
            passed = passed_after g.met.T.Item.in_order g.met.T.Item.apart c.args.others.now c.args.items.now.items c.index.result.now c.loop-place.place w.in-Err.gap c.requires.items inside is gap.before;
          })
    ]
