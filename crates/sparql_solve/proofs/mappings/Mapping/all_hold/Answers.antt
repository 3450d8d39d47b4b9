use Rattle.std.proofs.Common.{arith, sym, ◌∙◌}
use Rattle.sparql_solve.proofs.BoundLemmas.{all_hold_false, hold_all, hold_past}
use Rattle.sparql_solve.proofs.mappings.Mapping.all_hold.Goals as goal

pub returns-then-len-column : goal.returns-then-len-column
returns-then-len-column c =
    sym (hold_past c.args.pair c.args.self.now c.args.other.now c.loop-column.from c.in-Some.column c.loop-column.invariant c.in-Some.ensures.next
    (omega (arith, c.if-len-column.true, c.min-len.ensures, c.len.ensures, c.len-2.ensures)))

pub returns-then-not-holds_at : goal.returns-then-not-holds_at
returns-then-not-holds_at c =
    sym (all_hold_false c.args.pair c.args.self.now c.args.other.now c.in-Some.column c.in-Some.ensures.within
    (omega (arith, c.if-len-column.false, c.min-len.ensures, c.len.ensures, c.len-2.ensures)) (sym c.holds_at.ensures ∙ c.if-not-holds_at.true))

pub returns : goal.returns
returns c = sym (hold_all c.args.pair c.args.self.now c.args.other.now c.loop-column.from c.loop-column.invariant c.in_default.ensures.next)
