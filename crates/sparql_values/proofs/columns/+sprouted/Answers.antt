use Rattle.std.proofs.Common.{arith, ◌∙◌}
use Rattle.std.proofs.lemmas.Result.{IfOk-weaker}
use Rattle.sparql_values.proofs.ColumnsLemmas.{sprouted_left, sprouted_right}
use Rattle.sparql_values.proofs.columns.+sprouted.Goals as goal

pub returns-then-column-half : goal.returns-then-column-half
returns-then-column-half t c =
    IfOk-weaker c.forked.result _ _
    (λ out h. h ∙ sprouted_left _ _ _ _ _ _ _ (omega arith) c.if-column-half.true c.in_ok-first.ensures c.nothing.ensures) c.forked.ensures

pub returns : goal.returns
returns t c =
    IfOk-weaker c.forked-2.result _ _
    (λ out h. h ∙ sprouted_right _ _ _ _ _ _ _ (omega arith) c.if-column-half.false c.nothing-2.ensures c.in_ok-others.ensures) c.forked-2.ensures
