use Rattle.std.proofs.Common.{arith}
use Rattle.sparql_solve.proofs.BoundColumnLemmas.{none_past, seen_all, seen_last, seen_next}
use Rattle.sparql_solve.proofs.minus.binds_first.Goals as goal

pub loop-next-preserved : goal.loop-next-preserved
loop-next-preserved c =
    seen_next c.args.row.now c.args.columns.now c.loop-next.from c.in-Some.column c.loop-next.next-index c.loop-next.invariant c.in-Some.ensures.next
    c.loop-next-test.true c.if-column-next.false

pub returns-in_default : goal.returns-in_default
returns-in_default c e = seen_all c.args.row.now c.args.columns.now c.loop-next.from c.loop-next.invariant c.in_default.ensures.next

pub returns-then-len-from : goal.returns-then-len-from
returns-then-len-from c e =
    seen_all c.args.row.now c.args.columns.now c.loop-next.from c.loop-next.invariant
    (none_past c.args.row.now c.loop-next.from (omega (arith, c.len-len.ensures, c.if-len-from.true)))

pub returns : goal.returns
returns c e =
    seen_last c.args.row.now c.args.columns.now c.loop-next.from c.next_bound-2.result c.is_none.result c.loop-next.invariant c.next_bound-2.ensures.next
    c.is_none.ensures e
