use Rattle.std.proofs.Common.{ℕ, List, sym, ◌∙◌, subst}
use Rattle.sparql_solve.proofs.BoundColumnLemmas.{AreBoundIn}
use Rattle.sparql_solve.proofs.KeyLemmas.{rows_of}
use Rattle.sparql_solve.proofs.MinusLemmas.{all_met, none_shared, one_met, one_passed}
use Rattle.sparql_solve.proofs.minus.met_parts.Goals as goal

pub loop-rows-preserved-then-not-one_column : goal.loop-rows-preserved-then-not-one_column
loop-rows-preserved-then-not-one_column c =
    one_passed (rows_of c.args.left.now) c.args.right.now c.loop-rows.rows-index c.rows-item.result c.loop-rows-test.true c.rows-item.is
    c.loop-rows.parts.items c.loop-rows.invariant
    (none_shared (rows_of c.args.left.now) (rows_of c.rows-item.result.now) c.deref.result.now
    (subst (λ (l : List ℕ). AreBoundIn l (rows_of c.args.left.now)) (sym c.deref.ensures.value) c.in_ok-columns.ensures)
    (sym c.one_column.ensures ∙ c.if-not-one_column.true))

pub loop-rows-preserved : goal.loop-rows-preserved
loop-rows-preserved c =
    one_met (rows_of c.args.left.now) c.args.right.now c.loop-rows.rows-index c.rows-item.result c.loop-rows-test.true c.rows-item.is
    c.loop-rows.parts.items c.push.new.self.items c.in_ok-part_of.field-0 c.loop-rows.invariant c.in_ok-part_of.ensures c.in_ok-push.ensures.items

pub returns : goal.returns
returns c =
    all_met (rows_of c.args.left.now) c.args.right.now c.loop-rows.rows-index c.loop-rows.parts.items c.loop-rows-test.false c.loop-rows.invariant
