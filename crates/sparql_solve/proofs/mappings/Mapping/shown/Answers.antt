use Rattle.std.proofs.Common.{arith, length}
use Rattle.sparql_solve.proofs.BoundColumnLemmas.{none_past}
use Rattle.sparql_solve.proofs.TurnedLemmas.{shown_all, shown_next, shown_none}
use Rattle.sparql_solve.proofs.mappings.Mapping.shown.Goals as goal

pub loop-from-init : goal.loop-from-init
loop-from-init c =
    shown_none c.args.columns.now c.args.self.now c.in_ok-out.out (length c.args.columns.now) c.in_ok-out.ensures (omega arith)

pub loop-from-preserved : goal.loop-from-preserved
loop-from-preserved c =
    shown_next c.args.columns.now c.args.places.now c.args.self.now c.loop-from.out c.put_at.new.self c.loop-from.from c.in-Some.column c.place_of.result _
    c.requires c.in-Some.ensures.next c.loop-from.invariant c.place_of.ensures c.value.ensures c.in_ok-put_at.ensures

pub returns-in_default : goal.returns-in_default
returns-in_default c =
    shown_all c.args.columns.now c.args.self.now c.loop-from.out c.loop-from.from c.loop-from.invariant c.in_default.ensures.next

pub returns : goal.returns
returns c =
    shown_all c.args.columns.now c.args.self.now c.loop-from.out c.loop-from.from c.loop-from.invariant
    (none_past c.args.self.now c.loop-from.from (omega (arith, c.len-len.ensures, c.loop-from-test.false)))
