use Rattle.std.proofs.lemmas.List.Filters.{dedup_is}
use Rattle.sparql_solve.proofs.BoundColumnLemmas.{row_bound, row_seen, rows_bound}
use Rattle.sparql_solve.proofs.minus.bound_columns.Goals as goal

pub loop-row-preserved-then-binds_first : goal.loop-row-preserved-then-binds_first
loop-row-preserved-then-binds_first c =
    row_seen c.args.rows.now c.loop-row.row-index c.row-item.result c.loop-row.columns.items c.deref.result.now c.loop-row-test.true c.row-item.is
    c.deref.ensures.value c.loop-row.invariant (c.binds_first.ensures c.if-binds_first.true)

pub loop-row-preserved : goal.loop-row-preserved
loop-row-preserved c =
    row_bound c.args.rows.now c.loop-row.row-index c.row-item.result c.loop-row.columns.items c.append_bound.new.columns.items c.loop-row-test.true
    c.row-item.is c.loop-row.invariant c.in_ok-append_bound.ensures

pub returns : goal.returns
returns c =
    rows_bound c.args.rows.now c.loop-row.row-index c.loop-row.columns.items c.sort.new.self.items c.dedup.new.self.items c.loop-row-test.false
    c.loop-row.invariant c.in_ok-sort.ensures.permutation (dedup_is _ _ _ c.dedup.ensures.filtered)
