use Rattle.std.proofs.Common.{arith}
use Rattle.sparql_solve.specs.Keys.{all_bind}
use Rattle.sparql_solve.proofs.BoundColumnLemmas.{none_past}
use Rattle.sparql_solve.proofs.KeyLemmas.{rows_of, column_kept, column_left_out, kept_all, kept_before}
use Rattle.sparql_solve.proofs.keys.key_columns.Goals.{then-all_bind+in_ok-push, else-all_bind}
use Rattle.sparql_solve.proofs.keys.key_columns.Goals as goal

pub loop-from-preserved : goal.loop-from-preserved
loop-from-preserved c =
    let kept = c.loop-from.columns.items in
    let n = c.in-Some-next_bound.column in
    let here = all_bind (rows_of c.args.left.now) (rows_of c.args.right.now) in
    let before = kept_before c.args.left.now (rows_of c.args.right.now) c.in-Some.first.now c.in-Some.ensures.value c.loop-from.from n kept
    c.in-Some-next_bound.ensures.next c.loop-from.invariant.kept in
    record {
      kept = elim c.if-all_bind.branch [
        | then-all_bind+in_ok-push w ↦
            rw w.columns-is (column_kept here n c.all_bind.result kept _ c.all_bind.ensures w.if-all_bind.true before w.in_ok-push.ensures.items)
        | else-all_bind w ↦
            rw w.columns-is (column_left_out here n c.all_bind.result kept c.all_bind.ensures w.if-all_bind.false before)
      ];
      within = omega (arith, c.in-Some-next_bound.ensures.within, c.len-len.ensures);
    }

pub returns-in_default-next_bound : goal.returns-in_default-next_bound
returns-in_default-next_bound c =
    kept_all c.args.left.now (rows_of c.args.right.now) c.in-Some.first.now c.in-Some.ensures.value c.loop-from.from c.loop-from.columns.items
    c.in_default-next_bound.ensures.next (omega (arith, c.loop-from.invariant.within, c.len-len.ensures)) c.loop-from.invariant.kept

pub returns : goal.returns
returns c =
    kept_all c.args.left.now (rows_of c.args.right.now) c.in-Some.first.now c.in-Some.ensures.value c.loop-from.from c.loop-from.columns.items
    (none_past c.in-Some.first.now.now c.loop-from.from (omega (arith, c.loop-from-test.false, c.len-len.ensures)))
    (omega (arith, c.loop-from.invariant.within, c.len-len.ensures)) c.loop-from.invariant.kept
