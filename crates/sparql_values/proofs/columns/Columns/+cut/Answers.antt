use Rattle.std.proofs.Common.{◌≡◌, ◌-◌, ◌∙◌, arith, take}
use Rattle.std.proofs.lemmas.Result.{IfOk-weaker}
use Rattle.sparql_values.proofs.ColumnsLemmas.{at_Fork, at_Nothing, cut_fork, cut_nothing}
use Rattle.sparql_values.proofs.columns.Columns.+cut.Goals as goal

pub returns-in-Nothing : goal.returns-in-Nothing
returns-in-Nothing t c =
    cut_nothing c.args.self c.in-Nothing.field-0 c.args.columns c.len.result c.nothing.result (at_Nothing c.self.view_is c.in-Nothing.is) c.len.ensures
    c.if-len-columns.false c.nothing.ensures

pub returns-in_ok-others-in-Fork : goal.returns-in_ok-others-in-Fork
returns-in_ok-others-in-Fork t c =
    let at = at_Fork c.self.view_is c.self.invariant c.in-Fork.is in
    let first : c.into_inner-first.result ≡ c.in-Fork.first.value = cc in
    let others : c.into_inner.result ≡ c.in-Fork.others.value = cc in
    let kept : c.in_ok-others-in-Fork.others ≡ take (c.args.columns - c.in-Fork.many) c.into_inner.result = cc (c.in_ok-others-in-Fork.ensures, c.in-Fork.many-is) in
    IfOk-weaker c.forked.result _ _
    (λ out h. h ∙ cut_fork at c.args.columns c.into_inner-first.result c.into_inner.result c.in_ok-others-in-Fork.others (omega (arith, c.if-columns-many.false)) first
    others kept) c.forked.ensures
