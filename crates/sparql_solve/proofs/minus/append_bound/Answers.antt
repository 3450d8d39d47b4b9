use Rattle.std.proofs.Common.{arith}
use Rattle.sparql_solve.proofs.BoundColumnLemmas.{bound_all, bound_next, bound_none, none_past}
use Rattle.sparql_solve.proofs.minus.append_bound.Goals as goal

pub loop-from-init : goal.loop-from-init
loop-from-init c = bound_none c.args.columns.now.items c.args.row.now

pub loop-from-preserved : goal.loop-from-preserved
loop-from-preserved c =
    bound_next c.args.columns.now.items c.loop-from.columns.items c.push.new.self.items c.args.row.now c.loop-from.from c.in-Some.column c.loop-from.invariant
    c.in-Some.ensures.next c.in_ok-push.ensures.items

pub returns-in_default : goal.returns-in_default
returns-in_default c =
    bound_all c.args.columns.now.items c.loop-from.columns.items c.args.row.now c.loop-from.from c.loop-from.invariant c.in_default.ensures.next

pub returns : goal.returns
returns c =
    bound_all c.args.columns.now.items c.loop-from.columns.items c.args.row.now c.loop-from.from c.loop-from.invariant
    (none_past c.args.row.now c.loop-from.from (omega (arith, c.len-len.ensures, c.loop-from-test.false)))
