use Rattle.std.proofs.Common.{◌<◌, List, map, subst}
use Rattle.std.specs.List.{count_by}
use Rattle.sparql_values.specs.Mapping.{Mapping, same_mapping, value_in}
use Rattle.sparql_solve.proofs.DistinctLemmas.{row_kept, row_left, rows_done}
use Rattle.sparql_solve.proofs.results.projected_rows.Goals as goal

pub loop-row-preserved-then-is_repeat : goal.loop-row-preserved-then-is_repeat
loop-row-preserved-then-is_repeat c =
    let f : Mapping → Mapping = λ m. map (value_in m) c.args.columns.now in
    row_left f c.args.rows.now c.loop-row.row-index c.row-item.result c.loop-row.out.items c.args.distinct c.loop-row-test.true c.row-item.is c.loop-row.invariant
    c.if-distinct-2.true
    (subst (λ (xs : List Mapping). 0 < count_by (same_mapping (f c.row-item.result)) xs) c.as_slice.ensures.value (c.is_repeat.ensures c.if-is_repeat.true))

pub loop-row-preserved : goal.loop-row-preserved
loop-row-preserved c =
    let f : Mapping → Mapping = λ m. map (value_in m) c.args.columns.now in
    row_kept f c.args.rows.now c.loop-row.row-index c.row-item.result c.loop-row.out.items c.args.distinct c.loop-row-test.true c.row-item.is c.loop-row.invariant
    c.in_ok-projected.field-0 c.push.new.self.items c.in_ok-projected.ensures c.in_ok-push.ensures.items

pub returns : goal.returns
returns c =
    rows_done (λ m. map (value_in m) c.args.columns.now) c.args.rows.now c.loop-row.row-index c.loop-row.out.items c.args.distinct c.loop-row-test.false
    c.loop-row.invariant
